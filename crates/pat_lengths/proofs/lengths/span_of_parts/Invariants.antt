use Rattle.std.proofs.Common.{◌≡◌, ◌≤◌, ℕ, All, length, drop}
use Rattle.pat_lengths.specs.Lengths.{SomeLengths}
use Rattle.pat_lengths.specs.Spans.{kept, span_at, lengths_of_parts}
use Rattle.pat_lengths.proofs.lengths.span_of_parts.Given as goal

abbrev pub invariant-loop-i : goal.invariant-loop-i
invariant-loop-i l = record {
  within : l.i ≤ length l.parts;
  is : (of : ℕ → SomeLengths) → All (λ k. span_at l.spans k ≡ kept (of k)) l.parts
      → l.whole ≡ kept (lengths_of_parts of (drop l.i l.parts));
}

abbrev pub decreases-loop-i : goal.decreases-loop-i
decreases-loop-i l = l.i
