-- Laws on characters, their properties and their foldings.
use Rattle.std.specs.Prelude.{◌≡◌, ℕ, ◌≤◌, ◌↔◌, Some, false, List, length, take, IsUtf8, IsCharBoundary}
use Rattle.std.specs.Str.Lossy.{utf8_valid_len}
use Rattle.uni_text.specs.declared.properties.Prop.{Prop}
use Rattle.uni_text.specs.Folding.{fold}
use Rattle.uni_text.specs.Properties.{is_char, has_prop, prop_by_number, prop_number}

-- a character's place in a checked text is one with whole characters before it
abbrev pub PlacesAreBetweenCharacters : Type 0
PlacesAreBetweenCharacters = (bytes : List ℕ) (at : ℕ) → IsUtf8 bytes → at ≤ length bytes
    → (IsCharBoundary bytes at ↔ IsUtf8 (take at bytes))

-- the length at which bytes are refused is that of the longest part from their start on that is UTF-8
pub record IsLongestPart (bytes : List ℕ) (n : ℕ) : Type 0 where
  pub within : n ≤ length bytes
  pub valid : IsUtf8 (take n bytes)
  pub longest : (m : ℕ) → m ≤ length bytes → IsUtf8 (take m bytes) → m ≤ n

abbrev pub ValidPartIsLongest : Type 0
ValidPartIsLongest = (bytes : List ℕ) → IsLongestPart bytes (utf8_valid_len bytes)

-- each property has a number of its own, which gives it back
pub record NumbersAreInverse : Type 0 where
  pub back : (p : Prop) → prop_by_number (prop_number p) ≡ Some p
  pub forth : (n : ℕ) (p : Prop) → prop_by_number n ≡ Some p → prop_number p ≡ n

-- a folding folds to itself, and so does a number that is no character
pub record FoldingsAreFixed : Type 0 where
  pub twice : (c : ℕ) → fold (fold c) ≡ fold c
  pub others : (c : ℕ) → is_char c ≡ false → fold c ≡ c

-- a number that is no character has no property
abbrev pub OthersHaveNoProperty : Type 0
OthersHaveNoProperty = (p : Prop) (c : ℕ) → is_char c ≡ false → has_prop p c ≡ false
