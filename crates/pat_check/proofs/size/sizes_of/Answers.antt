use Rattle.std.proofs.Common.{◌≡◌, ◌∙◌, ◌+◌, ◌∷◌, ◌++◌, [], ap, sym, subst, length, length-append}
use Rattle.pat_tree.specs.Nested.{trees, tree_at}
use Rattle.pat_lengths.proofs.KeepLemmas.{keep_more}
use Rattle.pat_check.specs.Size.{KeepSizes, size}
use Rattle.pat_check.proofs.size.sizes_of.Goals as goal

pub loop-id-preserved : goal.loop-id-preserved
loop-id-preserved c =
    let ts = trees c.args.tree.now.nodes in
    let old = c.loop-id.sizes.items in
    let x = c.node_size-size.result in
    let items : c.push.new.self.items ≡ old ++ x ∷ [] = c.in_ok-push.ensures.items in
    let count : length old ≡ c.loop-id.id = c.loop-id.invariant.0 in (
      ap length items ∙ length-append old (x ∷ []) ∙ ap (λ n. n + 1) count,
      subst (KeepSizes ts) (sym items) (keep_more (λ k n. n ≡ size (tree_at ts k)) old x 0 c.loop-id.invariant.1
          (rw (count, ← c.node.ensures.is) (rw c.deref.ensures.value at
          (c.node_size-size.ensures ts c.node.ensures.rules.test) c.loop-id.invariant.1))),
    )
