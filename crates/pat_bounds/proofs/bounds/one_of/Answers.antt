use Rattle.std.proofs.Common.{arith}
use Rattle.pat_bounds.proofs.BoundLemmas.{one_only, one_of_more}
use Rattle.pat_bounds.proofs.bounds.one_of.Goals as goal

pub returns-then-branches-eq1 : goal.returns-then-branches-eq1
returns-then-branches-eq1 c =
    let one = c.if-branches-eq1.true in
    one_only c.args.tree.now c.args.bounds.now c.args.branches.now one (c.requires.below 0 0 (omega (arith, one)))

pub returns : goal.returns
returns c = one_of_more c.args.tree.now c.args.bounds.now c.choices_of.result c.args.branches.now
    c.if-branches-eq1.false c.choices_of.ensures
