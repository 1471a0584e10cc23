use Rattle.pat_tree.specs.Pattern.{pattern_of}
use Rattle.test_lines.specs.Callouts.{calls_text}
use Rattle.test_lines.specs.Marks.{showing}
use Rattle.std.proofs.Common.{[]}
use Rattle.test_run.proofs.Searching.{refused-is}
use Rattle.test_lines.proofs.Writing.{writes-equal, lacks-first}
use Rattle.test_run.proofs.matches.tell_refused.Goals as goal

pub returns-in-Memory-clause-wrote : goal.returns-in-Memory-clause-wrote
returns-in-Memory-clause-wrote g c = rw c.in-Memory.is (lacks-first [] _)

pub returns-in_default-clause-wrote : goal.returns-in_default-clause-wrote
returns-in_default-clause-wrote g c =
    let t = c.args.tested.now in
    writes-equal
    (refused-is (calls_text t.code.tree.options.utf t.code.tree.verb_names t.pattern c.args.subject.now
    c.args.calls.now.replies c.args.calls.now.blocks.items) (showing (pattern_of t.code.tree) c.args.marks)
    c.args.subject.now c.args.e c.in_default.not-Memory)
    c.tell_shown.ensures.wrote
