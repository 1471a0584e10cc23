use Rattle.std.proofs.Common.{◌≡◌, ℕ, ◌<◌, length, if◌then◌else◌}
use Rattle.pat_lengths.specs.Lengths.{any_length}
use Rattle.pat_lengths.specs.Passing.{flagged}
use Rattle.pat_lengths.specs.Spans.{kept, span_at}
use Rattle.pat_lengths.proofs.behind.freed.Given as goal

abbrev pub invariant-loop-k : goal.invariant-loop-k
invariant-loop-k l = (length l.freed.items ≡ l.k)
    × ((i : ℕ) → i < l.k → span_at l.freed.items
    i ≡ (if flagged l.free i then kept any_length else span_at l.spans i))
