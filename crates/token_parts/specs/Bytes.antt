-- How the bytes of a pattern are read. A place is a number of bytes from the pattern's begin.
use Rattle.std.specs.Prelude.{ℕ, ◌+◌, ◌^◌, min, Bool, false, ◌==◌, ◌||◌, List, [], ◌∷◌, drop, Some, None, slice_get}
use Rattle.std.specs.Prelude.{slice_range, nat_eq, codes}
use Rattle.std.specs.List.{prefix_len, starts_with}
use Rattle.std.specs.Str.Parse.{digits_value}
use Rattle.std.specs.Char.{is_digit, is_ascii_alphanumeric}
use Prim.Native.String.{String}

abbrev pub is_among : ℕ → List ℕ → Bool
is_among c [] = false
is_among c (d ∷ []) = c == d
is_among c (d ∷ e ∷ rest) = c == d || is_among c (e ∷ rest)

-- the character is one of these
infix 60 ◌∈◌
abbrev pub ◌∈◌ : ℕ → String → Bool
c ∈ s = is_among c (codes s)

-- a letter, a digit or an underscore
abbrev pub is_word_byte : ℕ → Bool
is_word_byte c = is_ascii_alphanumeric c || c ∈ "_"

module _ (text : List ℕ) where
  -- the byte at the place passes the test
  abbrev pub passes_at : (ℕ → Bool) → ℕ → Bool
  passes_at test i = elim (slice_get text i) [ None ↦ false | Some c ↦ test c ]

  -- one of these characters stands at the place
  abbrev pub is_at : String → ℕ → Bool
  is_at s i = passes_at (λ c. c ∈ s) i

  -- this byte stands at the place
  abbrev pub stands : ℕ → ℕ → Bool
  stands c i = passes_at (λ d. d == c) i

  -- this word begins at the place
  abbrev pub begins : String → ℕ → Bool
  begins word i = starts_with nat_eq (drop i text) (codes word)

  -- where the run of bytes that pass the test ends
  unfoldable pub run_end : (ℕ → Bool) → ℕ → ℕ
  run_end test from = from + prefix_len test (drop from text)

  -- where the digits of a radix end
  abbrev pub digits_end : ℕ → ℕ → ℕ
  digits_end radix from = run_end (λ c. is_digit c radix) from

  -- The number that the digits between two places write. Those past 4,294,967,295 count as 4,294,967,296.
  unfoldable pub numeral : ℕ → ℕ → ℕ → ℕ
  numeral radix from to = min (2 ^ 32) (digits_value radix (slice_range text from to))
