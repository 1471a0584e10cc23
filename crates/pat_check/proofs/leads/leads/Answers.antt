use Rattle.std.proofs.Common.{◌≡◌, ◌∙◌, ◌+◌, ◌∷◌, ◌++◌, [], None, ap, sym, subst, length, length-append}
use Rattle.pat_tree.specs.Nested.{trees, tree_at}
use Rattle.pat_lengths.proofs.KeepLemmas.{keep_more}
use Rattle.pat_check.specs.Starts.{KeepLeads, IsSomeLead, lead_in}
use Rattle.pat_check.proofs.leads.leads.Goals as goal

pub loop-id-preserved : goal.loop-id-preserved
loop-id-preserved c =
    let tree = c.args.tree.now in
    let ts = trees tree.nodes in
    let old = c.loop-id.starts.items in
    let start = c.lead_of-start.result in
    let items : c.push.new.self.items ≡ old ++ start ∷ [] = c.in_ok-push.ensures.items in
    let count : length old ≡ c.loop-id.id = c.loop-id.invariant.0 in (
      ap length items ∙ length-append old (start ∷ []) ∙ ap (λ n. n + 1) count,
      λ fold folds. subst (KeepLeads tree fold ts) (sym items)
          (keep_more (λ k s. IsSomeLead s (lead_in tree fold (tree_at ts k))) old start None
          (c.loop-id.invariant.1 fold folds)
          (rw (count, ← c.node.ensures.is) (rw c.deref.ensures.value at
          (c.lead_of-start.ensures fold folds ts c.node.ensures.rules.test)
          (c.loop-id.invariant.1 fold folds)))),
    )
