use Rattle.std.proofs.Common.{arith, ◌≡◌, ◌⊎◌, ◌<◌, ◌-◌, ℕ, Option, Some, None, inl, inr, length, subst, sym}
use Rattle.std.specs.Prelude.{IfSome}
use Rattle.pat_tree.specs.Nested.{Nested, tree_at, trees}
use Rattle.char_sets.specs.Sets.{class_has}
use Rattle.pat_needs.specs.NeedTables.{may_of}
use Rattle.pat_needs.specs.declared.choice.Choice.{Choice}
use Rattle.pat_needs.specs.declared.needs.Far.{Far}
use Rattle.pat_needs.proofs.ChoiceLemmas.{IsFar, far_before, far_here}
use Rattle.pat_needs.proofs.needs.farther.Goals as goal

pub loop-i-preserved : goal.loop-i-preserved
loop-i-preserved c =
    let t = c.args.tree.now in
    let may = may_of t in
    let utf = t.options.utf in
    let xs = c.args.parts.now in
    let i = c.loop-i.i in
    let of : ℕ → Nested = tree_at (trees t.nodes) in
    let old = c.loop-i.invariant in
    let below : i - 1 < length xs = omega (arith, old.within, c.loop-i-test.true) in
    let long = rw (c.node.ensures.is, c.options.ensures) at (c.length_of.ensures (class_has t) (trees t.nodes)) in
    let moved = far_before may utf of xs i c.loop-i-test.true old.within c.loop-i.best c.length_of.result
    c.behind-far.result old.best long c.behind-far.ensures in
    record {
      within = omega (arith, old.within);
      best = by_choice c.behind-far.result c.rarer_than-here.result c.nearest-best.result c.nearest-best.ensures moved
          c.rarer_than-here.ensures below;
    }
  where
    by_choice : (far : Option Far) (here : Option Choice) (r : Option Far)
        → (r ≡ far) ⊎ IfSome r (λ (told : Far). (here ≡ Some told.choice) × (told.distance ≡ 0))
        → IfSome far (IsFar (may_of c.args.tree.now) c.args.tree.now.options.utf
        (tree_at (trees c.args.tree.now.nodes)) c.args.parts.now (c.loop-i.i - 1))
        → IfSome here (λ (choice : Choice). choice.at ≡ c.loop-i.i - 1) → c.loop-i.i - 1 < length c.args.parts.now
        → IfSome r (IsFar (may_of c.args.tree.now) c.args.tree.now.options.utf
        (tree_at (trees c.args.tree.now.nodes)) c.args.parts.now (c.loop-i.i - 1))
    by_choice far here r (inl same) kept at l = subst (λ o. IfSome o (IsFar (may_of c.args.tree.now)
        c.args.tree.now.options.utf (tree_at (trees c.args.tree.now.nodes)) c.args.parts.now (c.loop-i.i - 1))) (sym same)
        kept
    by_choice far here None (inr told) kept at l = tt
    by_choice far here (Some new) (inr told) kept at l =
        far_here (may_of c.args.tree.now) c.args.tree.now.options.utf (tree_at (trees c.args.tree.now.nodes))
        c.args.parts.now (c.loop-i.i - 1) new l
        (subst (λ o. IfSome o (λ (choice : Choice). choice.at ≡ c.loop-i.i - 1)) told.0 at) told.1

pub returns : goal.returns
returns c =
    let t = c.args.tree.now in
    let done : c.loop-i.i ≡ 0 = omega (arith, c.loop-i-test.false) in
    subst (λ i. IfSome c.loop-i.best
    (IsFar (may_of t) t.options.utf (tree_at (trees t.nodes)) c.args.parts.now i)) done c.loop-i.invariant.best
