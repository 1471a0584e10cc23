use Rattle.std.proofs.Common.{◌≡◌, ◌++◌, Err, sym, subst, rules}
use Rattle.pat_tree.specs.Pattern.{pattern_of}
use Rattle.test_lines.specs.Marks.{showing}
use Rattle.test_run.specs.Searches.{error_text}
use Rattle.tool_io.specs.Writes.{Writes}
use Rattle.test_lines.specs.Callouts.{calls_text}
use Rattle.test_lines.proofs.Writing.{writes-then, writes-first}
use Rattle.test_run.proofs.matches.tell_shown.Goals as goal

pub returns-in_err-show_calls-clause-wrote : goal.returns-in_err-show_calls-clause-wrote
returns-in_err-show_calls-clause-wrote g c =
    let xs = calls_text c.args.tested.now.code.tree.options.utf c.args.tested.now.code.tree.verb_names
    c.args.tested.now.pattern c.args.subject.now c.args.calls.now.replies c.args.calls.now.blocks.items in
    let ys = error_text (showing (pattern_of c.args.tested.now.code.tree) c.args.marks) c.args.subject.now c.args.e in
    let e = c.in_err-show_calls.field-0.0 in
    let same : c.from_residual.result ≡ Err e = search rules in
    subst (λ r. Writes (calls_text c.args.tested.now.code.tree.options.utf c.args.tested.now.code.tree.verb_names
    c.args.tested.now.pattern c.args.subject.now c.args.calls.now.replies c.args.calls.now.blocks.items
    ++ error_text (showing (pattern_of c.args.tested.now.code.tree) c.args.marks) c.args.subject.now c.args.e)
    (g.O.Sink.tells c.args.out.now) (g.O.Sink.tells c.show_calls.new.out) r) (sym same)
    (writes-first {A = Unit {0}} xs ys _ _ e (c.in_err-show_calls.ensures))

pub returns-clause-wrote : goal.returns-clause-wrote
returns-clause-wrote g c =
    let xs = calls_text c.args.tested.now.code.tree.options.utf c.args.tested.now.code.tree.verb_names
    c.args.tested.now.pattern c.args.subject.now c.args.calls.now.replies c.args.calls.now.blocks.items in
    let ys = error_text (showing (pattern_of c.args.tested.now.code.tree) c.args.marks) c.args.subject.now c.args.e in
    writes-then xs ys _ _ _ _ c.tell_error.result (c.in_ok-show_calls.ensures) (c.tell_error.ensures.wrote)
