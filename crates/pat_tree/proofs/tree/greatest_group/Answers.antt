use Rattle.std.proofs.Common.{◌≡◌, ◌∙◌, ◌-◌, ◌+◌, ◌<◌, refl, ap, arith, length}
use Rattle.std.proofs.Math.Seq.{drop-length}
use Rattle.pat_tree.specs.Rules.{numbers_of}
use Rattle.pat_tree.specs.Sound.{group_numbers, greatest}
use Rattle.pat_tree.proofs.Keeping.{numbers_drop, max_is}
use Rattle.pat_tree.proofs.tree.greatest_group.Goals as goal

pub loop-i-init : goal.loop-i-init
unfolding group_numbers
loop-i-init c = (omega arith, rw (drop-length c.args.nodes.now) refl)

pub loop-i-preserved : goal.loop-i-preserved
loop-i-preserved c =
    let i = c.loop-i.i in
    let ps = c.args.nodes.now in
    let p = c.index-nodes-i.result in
    let within : i - 1 < length ps = omega (arith, c.loop-i.invariant.0, c.loop-i-test.true) in
    let back : (i - 1) + 1 ≡ i = omega (arith, c.loop-i-test.true) in
    let more = rw (back, ← c.loop-i.invariant.1) at (numbers_drop ps (i - 1) p within c.index-nodes-i.is) in (
      omega (arith, c.loop-i.invariant.0),
      omega (
        arith,
        more,
        c.max-most.ensures
            ∙ max_is c.loop-i.most c.number_of.result,
        c.number_of.ensures,
        ap (λ q. greatest (numbers_of q.node)) c.index-nodes-i.is,
      ),
    )
