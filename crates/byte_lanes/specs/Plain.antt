-- Bytes that are characters of ASCII and no part of a newline of any convention.
use Rattle.std.specs.Prelude.{◌≡◌, ℕ, ◌&&◌, nat_lt, Bool, false, List, slice_index}

abbrev pub is_plain : ℕ → Bool
is_plain b = nat_lt 13 b && nat_lt b 128

-- the byte at place k is another
abbrev pub IsOther : List ℕ → ℕ → Type 0
IsOther bytes k = is_plain (slice_index bytes k) ≡ false
