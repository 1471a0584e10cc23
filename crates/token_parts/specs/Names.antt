-- Names of groups (pcre2pattern, "Named capture groups").
use Rattle.std.specs.Prelude.{ℕ, ◌-◌, Bool, true, false, ◌==◌, ◌||◌, nat_lt, List, length, Result, Ok, Some, None}
use Rattle.std.specs.Prelude.{slice_get, if◌then◌else◌}
use Rattle.std.specs.Char.{is_ascii_digit}
use Rattle.uni_text.specs.Sets.{alpha, digit}
use Rattle.token_parts.specs.declared.fault.Fault.{Fault}
use Rattle.token_parts.specs.Bytes.{is_word_byte, passes_at, stands, run_end}
use Rattle.token_parts.specs.Characters.{wide}
use Rattle.token_parts.specs.Comments.{skip}
use Rattle.token_parts.specs.Tell.{fault, longest_name}

-- what names have in UTF: Unicode's letters and decimal digits, its categories L and Nd, and the underscore, which is
-- 95
abbrev pub is_of_names : ℕ → Bool
is_of_names c = alpha true c || (digit true c || c == 95)

module _ (text : List ℕ) where
  -- in UTF past the character that begins at the place if names have it, and else the place itself
  unfoldable pub letter_end : ℕ → ℕ
  letter_end i = elim (slice_get text i) [
    | None ↦ i
    | Some c ↦ if is_of_names (wide text c i).0 then (wide text c i).1 else i
  ]

  -- where the letters, digits and underscores end: those of ASCII, and in UTF those of Unicode
  abbrev pub word_end : Bool → ℕ → ℕ
  word_end false from = run_end text is_word_byte from
  word_end true from = skip letter_end (length text - from) from

  -- a decimal digit begins at the place
  abbrev pub begins_digit : Bool → ℕ → Bool
  begins_digit false i = passes_at text is_ascii_digit i
  begins_digit true i = elim (slice_get text i) [ None ↦ false | Some c ↦ digit true (wide text c i).0 ]

  -- Where the name that begins at a place ends, with this character after it: letters, digits and underscores that
  -- don't begin with a digit, at most 128 bytes of them.
  unfoldable pub name_end : Bool → ℕ → ℕ → ℕ → Result ℕ Fault
  name_end utf at from close =
      let to = word_end utf from in
      if to == from || begins_digit utf from then fault 144 at
      else if nat_lt longest_name (to - from) then fault 148 at
      else if stands text close to then Ok to
      else fault 142 at
