use Rattle.std.proofs.Common.{◌≡◌, ℕ, ◌<◌, take}
use Rattle.std.specs.List.{list_any}
use Rattle.byte_lanes.specs.Sets.{has_byte}
use Rattle.char_sets.specs.Named.{set_in}
use Rattle.char_sets.proofs.bytes.bytes_of_sets.Given as goal

abbrev pub invariant-loop-set : goal.invariant-loop-set
invariant-loop-set l = (k : ℕ) → k < 256 → has_byte l.bytes k ≡ list_any (λ set. set_in set k) (take l.set-index l.sets)
