use Rattle.std.proofs.Common.{◌≡◌, ◌||◌, ℕ, Bool, length}
use Rattle.pat_tree.specs.Nested.{Nested, trees}
use Rattle.pat_lengths.specs.Lengths.{SomeLengths, lengths}
use Rattle.pat_lengths.specs.Nodes.{has_shared_number}
use Rattle.pat_lengths.specs.Spans.{EachBy, KeepSpans, KeepGroups, span_at}
use Rattle.pat_lengths.specs.Spans as spans
use Rattle.pat_lengths.proofs.lengths.spans_of.Given as goal

abbrev pub invariant-loop-id : goal.invariant-loop-id
invariant-loop-id l = record {
  count : length l.spans.items ≡ l.id;
  kept : (unset : Bool) (whole : Nested) (of_group : ℕ → SomeLengths) → KeepGroups unset whole of_group l.any l.groups
      → KeepSpans (lengths unset whole of_group) (trees l.tree.nodes) l.spans.items;
  each : (unset : Bool) (whole : Nested) (of_group : ℕ → SomeLengths) → l.any ≡ (unset || has_shared_number whole)
      → EachBy (λ n. span_at l.groups n ≡ spans.kept (of_group n)) (lengths unset whole of_group) (trees l.tree.nodes)
      l.spans.items;
}
