-- What is passed over: comments (pcre2pattern, "Comments"), and the white space that EXTENDED ignores (pcre2api,
-- "PCRE2_EXTENDED").
use Rattle.std.specs.Prelude.{ℕ, zero, suc, ◌+◌, ◌-◌, Bool, not, ◌&&◌, ◌||◌, ◌==◌, nat_lt, nat_eq, List, [], ◌∷◌}
use Rattle.std.specs.Prelude.{drop, length, Ok, if◌then◌else◌}
use Rattle.std.specs.List.{starts_with}
use Rattle.std.specs.Int.{is_in_range}
use Rattle.byte_lanes.specs.Newlines.{newline_len}
use Rattle.pat_tree.specs.Newlines.{end_kind}
use Rattle.token_parts.specs.declared.token.LexFlags.{LexFlags}
use Rattle.token_parts.specs.declared.token.Token.TheVariants.{Passed}
use Rattle.token_parts.specs.Bytes.{◌∈◌, passes_at, is_at, run_end}
use Rattle.token_parts.specs.Tell.{Lexed, fault}

-- the least place from i on that passes the test, or n places on
abbrev pub first_place : ℕ → (ℕ → Bool) → ℕ → ℕ
first_place zero test i = i
first_place (suc n) test i = if test i then i else first_place n test (i + 1)

-- past up to n of what stands there, where a step goes past one of them, or stays
abbrev pub skip : (ℕ → ℕ) → ℕ → ℕ → ℕ
skip step zero i = i
skip step (suc n) i = if step i == i then i else skip step n (step i)

abbrev pub is_extended : LexFlags → Bool
is_extended flags = flags.extended || flags.extended_more

-- HT, LF, VT, FF, CR, space, and without UTF the byte of U+0085
abbrev pub is_white : LexFlags → ℕ → Bool
is_white flags c = is_in_range 9 13 c || (c == 32 || (c == 0x85 && not flags.utf))

module _ (text : List ℕ) where
  -- how long the newline is that begins at the place; 0 where none does (pcre2pattern, "Newline conventions")
  unfoldable pub newline_at : LexFlags → ℕ → ℕ
  newline_at flags i = newline_len (end_kind flags.newline flags.utf) text i

  -- where the first newline from the place on begins, or the end of the text
  unfoldable pub first_newline : LexFlags → ℕ → ℕ
  first_newline flags from = first_place (length text - from) (λ i. nat_lt 0 (newline_at flags i)) from

  -- past that newline
  unfoldable pub line_end : LexFlags → ℕ → ℕ
  line_end flags from = first_newline flags from + newline_at flags (first_newline flags from)

  -- `(?#` up to a closing parenthesis
  unfoldable pub comment : ℕ → Lexed
  comment at =
      let to = run_end text (λ c. not (c ∈ ")")) (at + 3) in
      if is_at text ")" to then Ok (Passed, to + 1) else fault 118 (length text)

  -- these bytes begin at the place
  abbrev pub begins_bytes : ℕ → List ℕ → Bool
  begins_bytes i bytes = starts_with nat_eq (drop i text) bytes

  -- U+200E or U+200F in UTF-8
  abbrev pub begins_mark : ℕ → Bool
  begins_mark i = begins_bytes i (0xE2 ∷ 0x80 ∷ 0x8E ∷ []) || begins_bytes i (0xE2 ∷ 0x80 ∷ 0x8F ∷ [])

  -- U+2028 or U+2029
  abbrev pub begins_separator : ℕ → Bool
  begins_separator i = begins_bytes i (0xE2 ∷ 0x80 ∷ 0xA8 ∷ []) || begins_bytes i (0xE2 ∷ 0x80 ∷ 0xA9 ∷ [])

  -- how many bytes the white space character past ASCII has that begins at the place, U+0085 or one of these; 0 where
  -- none does
  abbrev pub wide_len : ℕ → ℕ
  wide_len i = if begins_bytes i (0xC2 ∷ 0x85 ∷ []) then 2 else if begins_mark i then 3 else if begins_separator i
      then 3 else 0

  module _ (flags : LexFlags) where
    -- the same of all white space, in UTF or not
    abbrev pub white_len : ℕ → ℕ
    white_len i = if passes_at text (is_white flags) i then 1 else if flags.utf then wide_len i else 0

    -- past one white space character, or one comment from `#` on; the place itself where neither stands there
    unfoldable pub blank_end : ℕ → ℕ
    blank_end i =
        if nat_lt 0 (white_len i) then i + white_len i
        else if is_at text "#" i then line_end flags (i + 1)
        else i

    -- past all of them
    unfoldable pub blanks_end : ℕ → ℕ
    blanks_end i = skip blank_end (length text - i) i
