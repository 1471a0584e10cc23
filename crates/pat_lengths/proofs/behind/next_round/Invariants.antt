use Rattle.std.proofs.Common.{◌≡◌, ℕ, ◌<◌, None, length, get_or}
use Rattle.pat_lengths.specs.Passing.{flagged}
use Rattle.pat_lengths.specs.Spans.{span_at, span_in}
use Rattle.pat_lengths.proofs.behind.next_round.Given as goal

abbrev pub invariant-loop-number : goal.invariant-loop-number
invariant-loop-number l = (length l.next.items ≡ l.number)
    × ((i : ℕ) → i < l.number → span_at l.next.items i ≡ span_in l.spans.items (get_or l.groups.places.items i None)
    (flagged l.back i))
