use Rattle.std.proofs.Common.{◌≡◌, ◌⊎◌, ℕ, true}
use Rattle.std.specs.List.{Contains}
use Rattle.pat_lengths.specs.Passing.{flagged}
use Rattle.pat_lengths.specs.Rings.{is_later}
use Rattle.pat_lengths.proofs.ranks.mark_later.Given as goal

abbrev pub invariant-loop-to : goal.invariant-loop-to
invariant-loop-to l =
    (k : ℕ) → flagged l.led.items k ≡ true
    → (flagged l.fn.led.items k ≡ true) ⊎ (Contains l.next k × (is_later l.rings l.id k ≡ true))
