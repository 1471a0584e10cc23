use Rattle.std.proofs.Common.{◌≡◌, ℕ, ◌<◌, ◌&&◌, nat_lt}
use Rattle.byte_lanes.specs.Sets.{has_byte}
use Rattle.char_sets.specs.Named.{set_in}
use Rattle.char_sets.proofs.bytes.tested_bytes.Given as goal

abbrev pub invariant-loop-b : goal.invariant-loop-b
invariant-loop-b l = (k : ℕ) → k < 256 → has_byte l.bytes k ≡ (nat_lt k l.b && set_in l.named k)
