-- Texts of subjects as they are shown (pcre2test, "DEFAULT OUTPUT FROM pcre2test").
use Rattle.std.specs.Prelude.{ℕ, ◌+◌, ◌/◌, ◌%◌, ◌&&◌, Bool, if◌then◌else◌, nat_lt, List, [], ◌∷◌, ◌++◌, flat_map}
use Rattle.std.specs.Prelude.{codes, chars, decimal, Option, Some, None}
use Rattle.std.specs.Str.{is_utf8}
use Rattle.std.specs.Int.{is_in_range}
use Rattle.std.specs.List.{range_with_len}
use Rattle.tool_io.specs.Texts.{line, text_if}
use Rattle.ordered_search.specs.PlaceAnswer.{Outcome}
use Rattle.pcre2_api.specs.Captured.{text_at, span_of, top_of}
use Rattle.std.specs.Option.{option_map}

abbrev pub is_plain : ℕ → Bool
is_plain b = is_in_range 32 126 b

abbrev pub hex_digit : ℕ → ℕ
hex_digit n = if nat_lt n 10 then 48 + n else 87 + n

-- `\xhh`
abbrev pub code_of : ℕ → List ℕ
code_of b = codes "\\x" ++ hex_digit (b / 16) ∷ hex_digit (b % 16) ∷ []

-- bytes from 32 to 126 are shown as they are, others by their codes
abbrev pub shown_byte : ℕ → List ℕ
shown_byte b = if is_plain b then b ∷ [] else code_of b

-- `\x{h..}`: the digits of a code point that it needs, and two at least
abbrev pub char_code_of : ℕ → List ℕ
char_code_of c =
    codes "\\x{"
    ++ text_if (nat_lt 1048575 c) (hex_digit (c / 1048576 % 16) ∷ [])
    ++ text_if (nat_lt 65535 c) (hex_digit (c / 65536 % 16) ∷ [])
    ++ text_if (nat_lt 4095 c) (hex_digit (c / 4096 % 16) ∷ [])
    ++ text_if (nat_lt 255 c) (hex_digit (c / 256 % 16) ∷ [])
    ++ hex_digit (c / 16 % 16) ∷ hex_digit (c % 16) ∷ codes "}"

-- and so are characters in UTF
abbrev pub shown_char : ℕ → List ℕ
shown_char c = if is_plain c then c ∷ [] else char_code_of c

abbrev pub shown_bytes : List ℕ → List ℕ
shown_bytes text = flat_map shown_byte text

abbrev pub shown_chars : List ℕ → List ℕ
shown_chars text = flat_map shown_char (chars text)

-- In UTF what is shown is UTF-8, since subjects are and groups begin and end at characters. Other
-- bytes would be shown as bytes.
abbrev pub shown : Bool → List ℕ → List ℕ
shown utf text = if utf && is_utf8 text then shown_chars text else shown_bytes text

-- the number of a group, right in two places
abbrev pub number_before : ℕ → List ℕ
number_before n = text_if (nat_lt n 10) (codes " ") ++ decimal n ++ codes ": "

abbrev pub shown_or_unset : Bool → Option (List ℕ) → List ℕ
shown_or_unset utf None = codes "<unset>"
shown_or_unset utf (Some text) = shown utf text

module _ (subject : List ℕ) (o : Outcome) where
  -- a group's text, if it is set; group 0 is the whole match
  abbrev pub group_text : ℕ → Option (List ℕ)
  group_text n = option_map (text_at subject) (span_of o n)

module _ (utf : Bool) (subject : List ℕ) (o : Outcome) where
  abbrev pub group_line : ℕ → List ℕ
  group_line n = line (number_before n ++ shown_or_unset utf (group_text subject o n))

  -- the whole match, and each group up to the greatest that is set
  abbrev pub groups_text : List ℕ
  groups_text = flat_map group_line (range_with_len 0 (top_of o + 1))
