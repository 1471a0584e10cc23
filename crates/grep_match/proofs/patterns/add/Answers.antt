use Rattle.pat_tree.specs.Pattern.{pattern_of}
use Rattle.grep_match.specs.PatternTexts.{wrapped, options_of}
use Rattle.grep_match.specs.Compiled.{meant}
use Rattle.grep_match.proofs.PatternTrees.{adds-one}
use Rattle.grep_match.proofs.patterns.add.Goals as goal

pub returns-in-Ok-clause-adds : goal.returns-in-Ok-clause-adds
returns-in-Ok-clause-adds c =
    let options = options_of c.args.plan.now in
    adds-one {A = Unit {0}} tt options (wrapped c.args.plan.now c.args.text.now)
    (meant options c.args.patterns.now.items) (meant options c.push_code.new.patterns.items)
    (pattern_of c.in-Ok.code.tree)
    (rw c.options_of.ensures at (rw c.in_ok-whole.ensures at (rw c.as_slice.ensures.value at
    c.in-Ok.ensures.compiled.2)))
    (c.in_ok-push_code-in-Ok.ensures.adds options)

pub returns-in-Ok-clause-kept : goal.returns-in-Ok-clause-kept
returns-in-Ok-clause-kept c = c.in_ok-push_code-in-Ok.ensures.kept (options_of c.args.plan.now)
