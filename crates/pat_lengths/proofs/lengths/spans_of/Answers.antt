use Rattle.std.proofs.Common.{◌≡◌, ◌∙◌, ℕ, ◌+◌, ◌<◌, ◌∷◌, ◌++◌, [], All, None, ap, sym, subst, length, length-append}
use Rattle.std.proofs.Common.{get_or}
use Rattle.pat_tree.specs.Nested.{trees, tree_at}
use Rattle.pat_tree.specs.Rules.{kids_of}
use Rattle.pat_lengths.specs.Leading.{names_of}
use Rattle.pat_lengths.specs.Lengths.{lengths}
use Rattle.pat_lengths.specs.Nodes.{named_in}
use Rattle.pat_lengths.specs.Spans.{EachBy, KeepSpans, kept, span_at}
use Rattle.pat_lengths.proofs.KeepLemmas.{all_kept, keep_more}
use Rattle.pat_lengths.proofs.PlainLemmas.{names_parts}
use Rattle.pat_lengths.proofs.lengths.spans_of.Goals as goal

pub loop-id-preserved : goal.loop-id-preserved
loop-id-preserved c =
    let ts = trees c.args.tree.now.nodes in
    let old = c.loop-id.spans.items in
    let x = c.node_span-span.result in
    let items : c.push.new.self.items ≡ old ++ x ∷ [] = c.in_ok-push.ensures.items in
    let count : length old ≡ c.loop-id.id = c.loop-id.invariant.count in
    record {
      count = ap length items ∙ length-append old (x ∷ []) ∙ ap (λ n. n + 1) count;
      kept = λ unset whole of_group groups.
          let before = c.loop-id.invariant.kept unset whole of_group groups in
          let node = c.node.result.now in
          let is : ℕ → Type 0 = λ k. span_at old k ≡ kept (lengths unset whole of_group (tree_at ts k)) in
          let below : All (λ k. k < length old) (kids_of node) =
          subst (λ n. All (λ k. k < n) (kids_of node)) (sym count) c.node.ensures.below in
          let told = rw c.deref.ensures.value at
          (c.node_span-span.ensures ts unset whole of_group c.node.ensures.rules.test groups.any_is
          (λ i d l. groups.each (get_or (names_of node) i d))) in
          subst (KeepSpans (lengths unset whole of_group) ts) (sym items)
          (keep_more (λ k s. s ≡ kept (lengths unset whole of_group (tree_at ts k))) old x None before
          (rw (count, ← c.node.ensures.is) (told (all_kept is (kids_of node) (length old) before below))));
      each = λ unset whole of_group a.
          let node = c.node.result.now in
          let told = c.node.ensures in
          let good : ℕ → Type 0 = λ n. span_at c.args.groups.now n ≡ kept (of_group n) in
          let is : ℕ → Type 0 = λ k. span_at old k ≡ kept (lengths unset whole of_group (tree_at ts k)) in
          let below : All (λ k. k < length old) (kids_of node) =
          subst (λ n. All (λ k. k < n) (kids_of node)) (sym count) told.below in
          let made = rw c.deref.ensures.value at (c.node_span-span.ensures ts unset whole of_group told.rules.test a) in
          let before = c.loop-id.invariant.each unset whole of_group a in
          subst (EachBy good (lengths unset whole of_group) ts) (sym items)
          (keep_more (λ k s. All good (named_in (tree_at ts k))
          → s ≡ kept (lengths unset whole of_group (tree_at ts k))) old x None before
          (λ names.
          let parts = names_parts good ts c.loop-id.id node told.is told.rules.test
          (subst (λ j. All good (named_in (tree_at ts j))) count names) in
          made parts.0 (λ i d l. before (get_or (kids_of node) i d) (below i d l) (parts.1 i d l))
          ∙ ap (λ t. kept (lengths unset whole of_group t)) (told.is ∙ ap (tree_at ts) (sym count))));
    }
