use Rattle.std.proofs.Common.{◌≡◌, ◌||◌, ℕ, ◌<◌, true}
use Rattle.pat_lengths.specs.Passing.{flagged}
use Rattle.pat_lengths.specs.Rings.{is_top}
use Rattle.pat_lengths.proofs.ranks.all_led.Given as goal

abbrev pub invariant-loop-id : goal.invariant-loop-id
invariant-loop-id l = (k : ℕ) → k < l.id → (is_top l.rings k || flagged l.led k) ≡ true
