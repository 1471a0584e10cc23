-- Characters and their places.
--
-- Without UTF a character is one byte. In UTF the text is checked: it is the encodings of scalar values in a row, as
-- RFC 3629, section 3, writes them (std's `IsUtf8`, and `encode_utf8` for its table of one to four bytes). A
-- character's place is one where no continuation byte stands (std's `IsCharBoundary`); that this is a place with whole
-- characters before it is a law.
use Rattle.std.specs.Prelude.{◌≡◌, ℕ, ◌+◌, ◌-◌, ◌≤◌, Bool, true, false, List, [], ◌∷◌, length, take, drop}
use Rattle.std.specs.Prelude.{slice_index, slice_range, IsTrue, IsUtf8, IsCharBoundary, chars, encode_utf8}
use Rattle.std.specs.Char.{IsScalar, len_utf8}

-- the first and the last character of a text
abbrev pub first_char : List ℕ → ℕ
first_char text = slice_index (chars text) 0

abbrev pub last_char : List ℕ → ℕ
last_char text = slice_index (chars text) (length (chars text) - 1)

-- the character that begins at a place, and the place after it
abbrev pub char_at : Bool → List ℕ → ℕ → ℕ × ℕ
char_at false bytes at = (slice_index bytes at, at + 1)
char_at true bytes at = (first_char (drop at bytes), at + len_utf8 (first_char (drop at bytes)))

-- the character that ends at a place, and the place where it begins
abbrev pub char_before : Bool → List ℕ → ℕ → ℕ × ℕ
char_before false bytes at = (slice_index bytes (at - 1), at - 1)
char_before true bytes at = (last_char (take at bytes), at - len_utf8 (last_char (take at bytes)))

-- in UTF the bytes are UTF-8
abbrev pub IsChecked : Bool → List ℕ → Type 0
IsChecked utf bytes = IsTrue utf → IsUtf8 bytes

-- a character begins there, or the text ends
abbrev pub IsPlace : Bool → List ℕ → ℕ → Type 0
IsPlace utf bytes at = (at ≤ length bytes) × (IsTrue utf → IsCharBoundary bytes at)

-- the character c takes the bytes between two places: one byte, or in UTF its encoding
abbrev pub bytes_of : Bool → ℕ → List ℕ
bytes_of false c = c ∷ []
bytes_of true c = encode_utf8 c

pub record IsCharSpan (utf : Bool) (bytes : List ℕ) (c from to : ℕ) : Type 0 where
  pub stands : slice_range bytes from to ≡ bytes_of utf c
  pub fits : to ≤ length bytes
  pub scalar : IsTrue utf → IsScalar c
