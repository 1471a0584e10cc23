use Rattle.std.proofs.Common.{◌≡◌, ◌∙◌, ◌+◌, ◌∷◌, ◌++◌, [], None, ap, sym, subst, length, length-append}
use Rattle.pat_tree.specs.declared.options.Options.{Options}
use Rattle.pat_tree.specs.Nested.{trees, tree_at}
use Rattle.pat_bounds.proofs.pat_lengths.KeepLemmas.{keep_more}
use Rattle.pat_needs.specs.NeedTables.{may_of, KeepNeeds, IsNeed}
use Rattle.pat_needs.proofs.needs.needs_of.Goals as goal

pub loop-id-preserved : goal.loop-id-preserved
loop-id-preserved c =
    let tree = c.args.tree.now in
    let ts = trees tree.nodes in
    let old = c.loop-id.needs.items in
    let need = c.node_need-need.result in
    let items : c.push.new.self.items ≡ old ++ need ∷ [] = c.in_ok-push.ensures.items in
    let count : length old ≡ c.loop-id.id = c.loop-id.invariant.0 in (
      ap length items ∙ length-append old (need ∷ []) ∙ ap (λ n. n + 1) count,
      subst (KeepNeeds (may_of tree) tree.options.utf c.args.anywhere ts) (sym items)
          (keep_more (λ k s. IsNeed (may_of tree) tree.options.utf c.args.anywhere (tree_at ts k) s) old need None
          c.loop-id.invariant.1
          (rw (count, ← c.node.ensures.is) (rw c.deref.ensures.value at
          (c.node_need-need.ensures tree c.requires (ap (λ (o : Options). o.utf) (sym c.options.ensures)) ts)
          c.loop-id.invariant.1))),
    )
