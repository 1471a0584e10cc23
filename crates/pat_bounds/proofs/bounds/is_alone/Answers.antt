use Rattle.std.proofs.Common.{◌∙◌, refl, sym}
use Rattle.pat_bounds.proofs.BoundLemmas.{apart_next, alone_told}
use Rattle.pat_bounds.proofs.bounds.is_alone.Goals as goal

pub loop-i-init : goal.loop-i-init
loop-i-init c = refl

pub loop-i-preserved : goal.loop-i-preserved
loop-i-preserved c =
    c.loop-i.invariant
    ∙ apart_next c.args.tree.now c.in-Some.item c.args.others.now c.loop-i.i c.loop-i-test.true
    (sym c.begins_apart.ensures ∙ c.if-not-begins_apart.false)

pub returns : goal.returns
returns c =
    alone_told c.args.tree.now c.in-Some.item c.args.first c.args.others.now c.loop-i.i
    (sym c.first_item.ensures.is ∙ c.in-Some.is) c.loop-i-test.false c.loop-i.invariant
