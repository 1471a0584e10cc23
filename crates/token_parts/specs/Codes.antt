-- What writes a character by its code (pcre2pattern, "Non-printing characters").
use Rattle.std.specs.Prelude.{ℕ, ◌+◌, min, bit_xor, not, ◌&&◌, ◌||◌, ◌==◌, nat_lt, List, Some, None, Ok, slice_get}
use Rattle.std.specs.Prelude.{if◌then◌else◌}
use Rattle.std.specs.Int.{is_in_range}
use Rattle.std.specs.Char.{to_ascii_uppercase}
use Rattle.token_parts.specs.declared.token.LexFlags.{LexFlags}
use Rattle.token_parts.specs.declared.token.Token.TheVariants.{Literal}
use Rattle.token_parts.specs.Bytes.{◌∈◌, is_at, digits_end, numeral}
use Rattle.token_parts.specs.Tell.{Lexed, fault}

-- the greatest code of a character
abbrev pub greatest : LexFlags → ℕ
greatest flags = if flags.utf then 0x10_FFFF else 255

module _ (text : List ℕ) where
  -- `\cx`: a small letter is made capital, and bit 6 of the code is inverted
  unfoldable pub control : ℕ → Lexed
  control at = elim (slice_get text (at + 2)) [
    | None ↦ fault 102 at
    | Some c ↦ if is_in_range 32 126 c then Ok (Literal (bit_xor (to_ascii_uppercase c) 64), at + 3) else fault 102 at
  ]

  module _ (flags : LexFlags) where
    -- up to three octal digits from the place on
    unfoldable pub octal : ℕ → ℕ → Lexed
    octal at from =
        let to = min (digits_end text 8 from) (from + 3) in
        let code = numeral text 8 from to in
        if nat_lt (greatest flags) code then fault 134 at else Ok (Literal code, to)

    -- digits between braces, from the place after the first
    unfoldable pub braced : ℕ → ℕ → Lexed
    braced radix at =
        let to = digits_end text radix (at + 3) in
        let code = numeral text radix (at + 3) to in
        if nat_lt (greatest flags) code then fault 134 at
        else if to == at + 3 || not (is_at text "}" to) then fault 135 at
        else if flags.utf && is_in_range 0xD800 0xDFFF code then fault 173 at
        else Ok (Literal code, to + 1)

    -- `\x{digits}`, or `\x` and up to two digits
    unfoldable pub hexadecimal : ℕ → Lexed
    hexadecimal at =
        let to = min (digits_end text 16 (at + 2)) (at + 4) in
        if is_at text "{" (at + 2) then braced 16 at else Ok (Literal (numeral text 16 (at + 2) to), to)

    -- `\c`, `\o` and `\x`
    unfoldable pub coded : ℕ → ℕ → Lexed
    coded c at =
        if c ∈ "c" then control at
        else if c ∈ "x" then hexadecimal at
        else if is_at text "{" (at + 2) then braced 8 at
        else fault 135 at
