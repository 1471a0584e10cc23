use Rattle.std.proofs.Common.{◌≡◌, ◌∙◌, ◌+◌, ◌-◌, ◌<◌, ℕ, List, ◌∷◌, drop, take, length, length-drop, get_or, sym}
use Rattle.std.proofs.Common.{subst, arith}
use Rattle.std.proofs.lemmas.List.{at_drop_more, take_all}
use Rattle.pat_bounds.specs.BoundTables.{RefinesTurn, IsBefore}
use Rattle.pat_bounds.proofs.BoundLemmas.{turn_none, turn_next}
use Rattle.pat_bounds.proofs.bounds.in_turn.Goals as goal

pub loop-i-init : goal.loop-i-init
loop-i-init c = record {
  within = omega arith;
  is = turn_none c.args.tree.now c.args.bounds.now c.once.result c.args.parts.now c.once.ensures;
}

pub loop-i-preserved : goal.loop-i-preserved
loop-i-preserved c =
    let tree = c.args.tree.now in
    let bounds = c.args.bounds.now in
    let parts = c.args.parts.now in
    let j = c.loop-i.i - 1 in
    let some = c.loop-i-test.true in
    let within = c.loop-i.invariant.within in
    let low : j < length parts = omega (arith, some, within) in
    let next : c.loop-i.i ≡ j + 1 = omega (arith, some) in
    let k = get_or parts j 0 in
    let here : drop j parts ≡ k ∷ drop (j + 1) parts = at_drop_more (λ (l : List ℕ). l) parts j 0 low in
    let long = length-drop j parts in
    let all : take (length parts - j) (drop j parts) ≡ k ∷ drop (j + 1) parts =
    take_all (length parts - j) (drop j parts) (omega (arith, long)) ∙ here in
    record {
      within = omega (arith, within);
      is = subst (RefinesTurn tree bounds c.followed-whole.result) (sym here)
          (turn_next tree bounds c.bound_before.result c.loop-i.whole c.followed-whole.result k (drop (j + 1) parts)
          (c.requires.below j 0 low)
          (subst (IsBefore tree bounds c.bound_before.result) all c.bound_before.ensures)
          (subst (λ n. RefinesTurn tree bounds c.loop-i.whole (drop n parts)) next c.loop-i.invariant.is)
          c.followed-whole.ensures);
    }
