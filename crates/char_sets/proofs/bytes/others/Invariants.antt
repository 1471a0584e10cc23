use Rattle.std.proofs.Common.{◌≡◌, ℕ, ◌<◌, ◌&&◌, not, nat_lt}
use Rattle.byte_lanes.specs.Sets.{has_byte}
use Rattle.char_sets.proofs.bytes.others.Given as goal

abbrev pub invariant-loop-b : goal.invariant-loop-b
invariant-loop-b l = (k : ℕ) → k < 256 → has_byte l.rest k ≡ (nat_lt k l.b && not (has_byte l.bytes k))
