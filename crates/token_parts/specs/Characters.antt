-- Characters that stand for themselves (pcre2pattern, "Characters and metacharacters"; RFC 3629, section 3).
use Rattle.std.specs.Prelude.{ℕ, ◌+◌, ◌*◌, ◌%◌, Bool, true, false, nat_lt, nat_le, List, length, slice_index}
use Rattle.std.specs.Prelude.{if◌then◌else◌}

module _ (text : List ℕ) where
  -- n bytes stand from the place on
  abbrev pub are_there : ℕ → ℕ → Bool
  are_there n at = nat_le (at + n) (length text)

  -- the six bits of a byte that goes on
  abbrev pub bits : ℕ → ℕ
  bits i = slice_index text i % 64

  -- In UTF the bytes from the first one, c, on; one that isn't followed by all that it says is taken alone.
  unfoldable pub wide : ℕ → ℕ → ℕ × ℕ
  wide c at =
      if nat_lt c 0x80 then (c, at + 1)
      else if nat_lt c 0xE0 then (if are_there 2 at then (c % 32 * 64 + bits (at + 1), at + 2) else (c, at + 1))
      else if nat_lt c 0xF0 then (if are_there 3 at then (c % 16 * 4096 + bits (at + 1) * 64 + bits (at + 2), at + 3)
      else (c, at + 1))
      else if are_there 4 at then (c % 8 * 262144 + bits (at + 1) * 4096 + bits (at + 2) * 64 + bits (at + 3), at + 4)
      else (c, at + 1)

  -- the character that begins with the byte c at a place, in UTF or outside it, and the place after it
  abbrev pub character : Bool → ℕ → ℕ → ℕ × ℕ
  character false c at = (c, at + 1)
  character true c at = wide c at
