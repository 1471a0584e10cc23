use Rattle.std.proofs.Common.{◌≡◌, ◌∙◌, ◌+◌, ◌∷◌, ◌++◌, [], ap, sym, subst, length, length-append, None}
use Rattle.pat_tree.specs.Nested.{trees, tree_at}
use Rattle.char_sets.specs.Sets.{class_has}
use Rattle.pat_lengths.proofs.KeepLemmas.{keep_more}
use Rattle.pat_bounds.specs.Bounds.{bound}
use Rattle.pat_bounds.specs.BoundTables.{Refines, KeepBounds}
use Rattle.pat_bounds.proofs.bounds.bounds_of.Goals as goal

pub loop-id-preserved : goal.loop-id-preserved
loop-id-preserved c =
    let ts = trees c.args.tree.now.nodes in
    let has = class_has c.args.tree.now in
    let old = c.loop-id.bounds.items in
    let x = c.bound_of-bound.result in
    let items : c.push.new.self.items ≡ old ++ x ∷ [] = c.in_ok-push.ensures.items in
    let count : length old ≡ c.loop-id.id = c.loop-id.invariant.0 in (
      ap length items ∙ length-append old (x ∷ []) ∙ ap (λ n. n + 1) count,
      subst (KeepBounds has ts) (sym items) (keep_more (λ k b. Refines b (bound has (tree_at ts k))) old x None
          c.loop-id.invariant.1
          (rw (count, ← c.node.ensures.is) (rw c.deref.ensures.value at c.bound_of-bound.ensures
          c.loop-id.invariant.1))),
    )
