-- Callouts (pcre2pattern, "Callouts").
use Rattle.std.specs.Prelude.{ℕ, ◌+◌, ◌^◌, ◌||◌, ◌==◌, nat_le, nat_lt, List, [], ◌∷◌, length, drop, Option, Some}
use Rattle.std.specs.Prelude.{None, Ok, slice_get, if◌then◌else◌}
use Rattle.std.specs.Str.{byte}
use Rattle.std.specs.Char.{is_ascii_digit}
use Rattle.token_parts.specs.declared.token.Token.TheVariants.{CalloutItem}
use Rattle.token_parts.specs.Bytes.{◌∈◌, is_at, digits_end, numeral}
use Rattle.token_parts.specs.Tell.{Lexed, fault}

-- where a string ends whose text from the place i on is given: at the first delimiter that doesn't stand twice
abbrev pub string_end : ℕ → ℕ → List ℕ → Option ℕ
string_end close i [] = None
string_end close i (c ∷ []) = if c == close then Some i else None
string_end close i (c ∷ d ∷ rest) =
    if c == close
    then (if d == close then string_end close (i + 2) rest else Some i)
    else string_end close (i + 1) (d ∷ rest)

-- what closes a string
abbrev pub closer : ℕ → ℕ
closer opener = if opener ∈ "{" then byte "}" else opener

module _ (text : List ℕ) where
  -- `(?C)` has number 0
  unfoldable pub numbered_callout : ℕ → Lexed
  numbered_callout at =
      let to = digits_end text 10 (at + 3) in
      let n = numeral text 10 (at + 3) to in
      if nat_lt 255 n then fault 138 at
      else if is_at text ")" to then Ok (CalloutItem n 0 0, to + 1)
      else fault 139 at

  -- A string of a text so long that a place in it is no number of 32 bits is refused.
  unfoldable pub string_callout : ℕ → ℕ → Lexed
  string_callout at opener = elim (string_end (closer opener) (at + 4) (drop (at + 4) text)) [
    | None ↦ fault 139 at
    | Some to ↦
        if nat_le (2 ^ 32) to then fault 120 0
        else if is_at text ")" (to + 1) then Ok (CalloutItem 0 (at + 4) to, to + 2)
        else fault 139 at
  ]

  -- `(?C`
  unfoldable pub callout : ℕ → Lexed
  callout at = elim (slice_get text (at + 3)) [
    | None ↦ fault 114 (length text)
    | Some c ↦
        if is_ascii_digit c || c ∈ ")" then numbered_callout at
        else if c ∈ "`'\"^%#${" then string_callout at c
        else fault 139 at
  ]
