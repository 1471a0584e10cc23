use Rattle.std.proofs.Common.{◌≡◌, ℕ, ◌<◌, ◌&&◌, nat_lt}
use Rattle.byte_lanes.specs.Sets.{has_byte}
use Rattle.uni_text.specs.Properties.{has_prop}
use Rattle.char_sets.proofs.bytes.bytes_with.Given as goal

abbrev pub invariant-loop-b : goal.invariant-loop-b
invariant-loop-b l = (k : ℕ) → k < 256 → has_byte l.bytes k ≡ (nat_lt k l.b && has_prop l.p k)
