use Rattle.std.proofs.Common.{◌≡◌, ◌∙◌, ℕ, ◌+◌, ◌-◌, List, ◌∷◌, map, drop, get_or, sym, ap, subst, arith}
use Rattle.std.proofs.lemmas.List.{drop_more}
use Rattle.pat_tree.specs.Nested.{trees, tree_at}
use Rattle.pat_lengths.specs.Passing.{ArePlaced, AreGroups}
use Rattle.pat_lengths.proofs.groups.groups_of.Goals as goal

pub loop-i-preserved : goal.loop-i-preserved
loop-i-preserved c =
    let t = c.args.tree.now in
    let ts = trees t.nodes in
    let order = c.args.order.now in
    let i = c.loop-i.i in
    let back : i - 1 + 1 ≡ i = omega arith in
    let next : drop (i - 1) order ≡ get_or order (i - 1) 0 ∷ drop i order =
    drop_more order (i - 1) 0 (omega (arith, c.loop-i.invariant.within))
    ∙ ap (λ k. get_or order (i - 1) 0 ∷ drop k order) back in
    record {
      within = omega arith;
      are =
          subst (λ (xs : List ℕ). AreGroups ts t.root c.see.new.self (map (tree_at ts) xs)) (sym next)
          (c.see.ensures.are (map (tree_at ts) (drop i order)) c.loop-i.invariant.are);
      placed = λ n.
          (subst (λ (xs : List ℕ). ArePlaced ts xs c.see.new.self.places.items) (sym next)
          (c.see.ensures.placed (drop i order) c.loop-i.invariant.placed)) n;
      room = c.see.ensures.room ∙ c.loop-i.invariant.room;
      few = omega (arith, c.see.ensures.one, c.loop-i.invariant.few);
    }
