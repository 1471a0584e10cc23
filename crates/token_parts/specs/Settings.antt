-- Option settings inside a pattern (pcre2pattern, "Internal option setting").
use Rattle.std.specs.Prelude.{ℕ, ◌+◌, Bool, true, false, not, ◌&&◌, ◌||◌, ◌==◌, List, [], ◌∷◌, length, Ok}
use Rattle.std.specs.Prelude.{slice_range, if◌then◌else◌}
use Rattle.std.specs.List.{list_any}
use Prim.Native.String.{String}
use Rattle.token_parts.specs.declared.token.OptionMask.{OptionMask}
use Rattle.token_parts.specs.declared.token.Token.TheVariants.{OptionSet}
use Rattle.token_parts.specs.Bytes.{◌∈◌, is_at, run_end}
use Rattle.token_parts.specs.Tell.{Lexed, fault}

abbrev pub has : String → List ℕ → Bool
has letter letters = list_any (λ c. c ∈ letter) letters

-- two x stand side by side
abbrev pub has_xx : List ℕ → Bool
has_xx [] = false
has_xx (c ∷ []) = false
has_xx (c ∷ d ∷ rest) = (c ∈ "x" && d ∈ "x") || has_xx (d ∷ rest)

-- the options that are set: `xx` sets x too
unfoldable pub set_by : List ℕ → OptionMask
set_by letters = record {
  i = has "i" letters;
  m = has "m" letters;
  s = has "s" letters;
  x = has "x" letters;
  xx = has_xx letters;
  n = has "n" letters;
  j = has "J" letters;
  u = has "U" letters;
}

-- the options that are unset: x without xx among those that are set unsets xx, and x or xx unsets both
unfoldable pub unset_by : OptionMask → List ℕ → OptionMask
unset_by on letters = record {
  i = has "i" letters;
  m = has "m" letters;
  s = has "s" letters;
  x = has "x" letters;
  xx = has "x" letters || (on.x && not on.xx);
  n = has "n" letters;
  j = has "J" letters;
  u = has "U" letters;
}

module _ (text : List ℕ) where
  abbrev pub letters_end : ℕ → ℕ
  letters_end from = run_end text (λ c. c ∈ "imsxnJU") from

  -- the letters that are set, and past a hyphen those that are unset, with `)` or `:` at the place
  unfoldable pub setting_closed : ℕ → Bool → List ℕ → List ℕ → ℕ → Lexed
  setting_closed at reset set unset i =
      let on = set_by set in
      let off = unset_by on unset in
      if is_at text ")" i then Ok (OptionSet reset on off false, i + 1)
      else if is_at text ":" i then Ok (OptionSet reset on off true, i + 1)
      else if i == length text then fault 114 (length text)
      else fault 111 at

  -- `(?^` unsets i, m, n, s and x first; no hyphen follows it
  unfoldable pub setting : ℕ → Lexed
  setting at =
      let to = letters_end (at + 2) in
      let after_caret = letters_end (at + 3) in
      let after_hyphen = letters_end (to + 1) in
      let set = slice_range text (at + 2) to in
      if is_at text "^" (at + 2) then setting_closed at true (slice_range text (at + 3) after_caret) [] after_caret
      else if is_at text "-" to then setting_closed at false set (slice_range text (to + 1) after_hyphen) after_hyphen
      else setting_closed at false set [] to
