-- What a subject line's text writes (pcre2test, "SUBJECT LINE SYNTAX"). A place is a number of bytes from the text's
-- begin.
use Rattle.std.specs.Prelude.{ℕ, zero, suc, ◌+◌, min, Bool, false, ◌&&◌, ◌||◌, ◌==◌, nat_lt, nat_le, List, [], ◌∷◌}
use Rattle.std.specs.Prelude.{◌++◌, length, Option, Some, None, slice_get, slice_range, encode_utf8, if◌then◌else◌}
use Rattle.std.specs.List.{repeat}
use Rattle.std.specs.Option.{option_map, option_and_then}
use Rattle.std.specs.Int.{is_in_range}
use Rattle.std.specs.Char.{is_ascii_alphanumeric}
use Rattle.byte_lanes.specs.Digits.{number_of}
use Rattle.token_parts.specs.Bytes.{◌∈◌, stands, digits_end}

-- what stands at a place
pub data Piece : Type 0 where
  -- nothing: the text ends there, or after a last backslash
  the_end : Piece
  -- these bytes, and the place after what writes them
  writes : List ℕ → ℕ → Piece
  -- `\[`, and the place after it
  opens : ℕ → Piece
  -- `\=`, and the place after it
  lists : ℕ → Piece
  -- no escape of these
  wrong : Piece

-- the control characters that letters write
abbrev pub control_of : ℕ → Option ℕ
control_of c =
    if c ∈ "a" then Some 7
    else if c ∈ "b" then Some 8
    else if c ∈ "e" then Some 27
    else if c ∈ "f" then Some 12
    else if c ∈ "n" then Some 10
    else if c ∈ "r" then Some 13
    else if c ∈ "t" then Some 9
    else if c ∈ "v" then Some 11
    else None

-- the codes of characters: all but surrogates, up to U+10FFFF
abbrev pub is_scalar : ℕ → Bool
is_scalar code = nat_lt code 0xD800 || is_in_range 0xE000 0x10_FFFF code

-- a character by its code: in UTF its encoding, else a byte
abbrev pub character : Bool → ℕ → ℕ → Piece
character utf code to =
    if utf then (if is_scalar code then writes (encode_utf8 code) to else wrong)
    else if nat_le code 255 then writes (code ∷ []) to
    else wrong

abbrev pub coded : Bool → Option ℕ → ℕ → Piece
coded utf None to = wrong
coded utf (Some code) to = character utf code to

-- bytes before those that follow
abbrev pub before : {A : Type 0} → List ℕ → Option (List ℕ × A) → Option (List ℕ × A)
before bytes None = None
before bytes (Some found) = Some (bytes ++ found.0, found.1)

-- the text of a repetition so many times
abbrev pub copies_of : List ℕ → Option (ℕ × ℕ) → Option (List ℕ × ℕ)
copies_of bytes None = None
copies_of bytes (Some count) = Some (repeat count.0 bytes, count.1)

-- The text of a repetition, by the piece at a place and the rest of the text after it. It has no repetition and no `\=`
-- in it.
abbrev pub repeated_after : Piece → (ℕ → Option (List ℕ × ℕ)) → Option (List ℕ × ℕ)
repeated_after the_end rest = None
repeated_after (writes bytes to) rest = before bytes (rest to)
repeated_after (opens to) rest = None
repeated_after (lists to) rest = None
repeated_after wrong rest = None

-- what copies write before the rest of a text
abbrev pub copies_before : Option (List ℕ × ℕ) → (ℕ → Option (List ℕ × Option ℕ)) → Option (List ℕ × Option ℕ)
copies_before None rest = None
copies_before (Some found) rest = before found.0 (rest found.1)

module _ (text : List ℕ) where
  -- the digits of a radix between two places, as a number
  abbrev pub digits : ℕ → ℕ → ℕ → Option ℕ
  digits radix from to = number_of radix (slice_range text from to)

  -- whether digits of a radix stand in braces at a place
  abbrev pub is_braced : ℕ → ℕ → Bool
  is_braced radix at = stands text 123 at && stands text 125 (digits_end text radix (at + 1))

  -- `{n}` at a place: the number, and the place after it
  unfoldable pub times : ℕ → Option (ℕ × ℕ)
  times at =
      let to = digits_end text 10 (at + 1) in
      if stands text 123 at && (nat_lt (at + 1) to && stands text 125 to) then option_map (λ n. (n, to + 1))
      (digits 10 (at + 1) to)
      else None

module _ (utf : Bool) (text : List ℕ) where
  -- `\` and up to three octal digits
  unfoldable pub octal : ℕ → Piece
  octal at =
      let to = min (digits_end text 8 (at + 1)) (at + 4) in
      coded utf (digits text 8 (at + 1) to) to

  -- a character by digits in braces
  abbrev pub braced : ℕ → ℕ → Piece
  braced radix at =
      let to = digits_end text radix (at + 1) in
      coded utf (digits text radix (at + 1) to) (to + 1)

  -- `\x{digits}`; else `\x` and up to two digits, which is a byte in UTF too
  unfoldable pub hexadecimal : ℕ → Piece
  hexadecimal at =
      let to = min (digits_end text 16 (at + 2)) (at + 4) in
      if is_braced text 16 (at + 2) then braced 16 (at + 2)
      else coded false (digits text 16 (at + 2) to) to

  -- `\o{digits}`
  unfoldable pub braced_octal : ℕ → Piece
  braced_octal at = if is_braced text 8 (at + 2) then braced 8 (at + 2) else wrong

  -- a backslash at a place, with this byte after it
  unfoldable pub escape : ℕ → ℕ → Piece
  escape at c = elim (control_of c) [
    | Some b ↦ writes (b ∷ []) (at + 2)
    | None ↦
        if c ∈ "01234567" then octal at
        else if c ∈ "x" then hexadecimal at
        else if c ∈ "o" then braced_octal at
        else if is_ascii_alphanumeric c then wrong
        else if c ∈ "=" then lists (at + 2)
        else if c ∈ "[" then opens (at + 2)
        else writes (c ∷ []) (at + 2)
  ]

  unfoldable pub piece_at : ℕ → Piece
  piece_at at = elim (slice_get text at) [
    | None ↦ the_end
    | Some c ↦ if c == 92 then elim (slice_get text (at + 1)) [ None ↦ the_end | Some d ↦ escape at d ] else writes
        (c ∷ []) (at + 1)
  ]

  -- the text of a repetition from a place on: its bytes, and the place after `]`; at most so many pieces are read
  abbrev pub repeated : ℕ → ℕ → Option (List ℕ × ℕ)
  repeated zero at = None
  repeated (suc n) at = if stands text 93 at then Some ([], at + 1) else repeated_after (piece_at at) (repeated n)

  -- the bytes of a repetition, and the place after it
  abbrev pub copies : Option (List ℕ × ℕ) → Option (List ℕ × ℕ)
  copies None = None
  copies (Some found) = copies_of found.0 (times text found.1)

  -- what a text writes, by the piece at a place and the rest of the text after it
  abbrev pub written_after : Piece → (ℕ → Option (List ℕ × Option ℕ)) → Option (List ℕ × Option ℕ)
  written_after the_end rest = Some ([], None)
  written_after (writes bytes to) rest = before bytes (rest to)
  written_after (opens to) rest = copies_before (copies (repeated (length text) to)) rest
  written_after (lists to) rest = Some ([], Some to)
  written_after wrong rest = None

  -- What the text from a place on writes, and where its list of modifiers begins, if it has one. At most so many pieces
  -- are read.
  abbrev pub written : ℕ → ℕ → Option (List ℕ × Option ℕ)
  written zero at = None
  written (suc n) at = written_after (piece_at at) (written n)

-- the greatest length of a subject
abbrev pub greatest_subject : ℕ
greatest_subject = 16777216

abbrev pub not_too_long : List ℕ × Option ℕ → Option (List ℕ × Option ℕ)
not_too_long found = if nat_le (length found.0) greatest_subject then Some found else None

abbrev pub unless_too_long : Option (List ℕ × Option ℕ) → Option (List ℕ × Option ℕ)
unless_too_long found = option_and_then not_too_long found

-- What a whole text writes, and where its list begins. It has no more pieces than bytes, and its end.
unfoldable pub subject_text : Bool → List ℕ → Option (List ℕ × Option ℕ)
subject_text utf text = unless_too_long (written utf text (length text + 1) 0)
