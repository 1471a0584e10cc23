-- Bytes of a subject.
use Rattle.std.specs.Prelude.{◌≡◌, ◌<◌, ℕ, Bool, false, List, length, slice_index}
use Rattle.byte_lanes.specs.Sets.{has_byte}

-- each is a byte
abbrev pub AreBytes : List ℕ → Type 0
AreBytes bytes = (k : ℕ) → k < length bytes → slice_index bytes k < 256

-- a byte that isn't in the set
abbrev pub IsByteOutside : List Bool → ℕ → Type 0
IsByteOutside set b = (b < 256) × (has_byte set b ≡ false)
