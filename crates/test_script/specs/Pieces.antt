-- Pieces of a subject line as the code has them.
use Rattle.std.specs.Prelude.{◌≡◌, ⊤, ℕ, suc, ◌+◌, ◌<◌, ◌≤◌, Bool, true, false, List, [], ◌∷◌, ◌++◌, length, Option}
use Rattle.std.specs.Prelude.{Some, None, IfSome, encode_utf8}
use Rattle.std.specs.List.{repeat}
use Rattle.test_script.specs.declared.subjects.Repetition.{Repetition}
use Rattle.test_script.specs.declared.subjects.Written.{Written}
use Rattle.test_script.specs.declared.subjects.Turn.{Turn}
use Rattle.test_script.specs.declared.subjects.Turn.TheVariants.{Goes, Ends, Stops}
use Rattle.token_parts.specs.Bytes.{stands}
use Rattle.test_script.specs.declared.escapes.Piece.{Piece as Kept}
use Rattle.test_script.specs.declared.escapes.Piece.TheVariants as kept
use Rattle.test_script.specs.Subjects.{Piece, the_end, writes, opens, lists, wrong, before, repeated, written}
use Rattle.test_script.specs.Subjects.{unless_too_long, greatest_subject}

abbrev pub piece_seen : Kept → Piece
piece_seen kept.End = the_end
piece_seen (kept.Byte b to) = writes (b ∷ []) to
piece_seen (kept.Char c to) = writes (encode_utf8 c) to
piece_seen (kept.Opens to) = opens to
piece_seen (kept.Lists to) = lists to
piece_seen kept.Wrong = wrong

-- the place after a piece, if it has one
abbrev pub place_after : Kept → ℕ
place_after kept.End = 0
place_after (kept.Byte b to) = to
place_after (kept.Char c to) = to
place_after (kept.Opens to) = to
place_after (kept.Lists to) = to
place_after kept.Wrong = 0

abbrev pub repeated_seen : Option Repetition → Option (List ℕ × ℕ)
repeated_seen None = None
repeated_seen (Some found) = Some (found.bytes.items, found.to)

abbrev pub written_seen : Option Written → Option (List ℕ × Option ℕ)
written_seen None = None
written_seen (Some found) = Some (found.bytes.items, found.list)

-- so many copies were added, or with them the bytes are too many
abbrev pub Repeats : List ℕ → List ℕ → ℕ → List ℕ → Bool → Type 0
Repeats old copy count new true = new ≡ old ++ repeat count copy
Repeats old copy count new false = greatest_subject < length old + length (repeat count copy)

-- what copies, if they are some, make of the bytes; the place after them
abbrev pub Copies : List ℕ → Option (List ℕ × ℕ) → List ℕ → Option ℕ → Type 0
Copies old copies new (Some to) = (more : List ℕ) × (copies ≡ Some (more, to)) × (new ≡ old ++ more)
Copies old None new None = ⊤
Copies old (Some found) new None = greatest_subject < length old + length found.0

-- What a piece of a repetition's text writes is added, and the place after it is told, or it writes nothing. It isn't
-- `]`.
abbrev pub IsPlain : Bool → List ℕ → ℕ → List ℕ → List ℕ → Option ℕ → Type 0
IsPlain utf text at old new (Some to) = (n : ℕ) → stands text 93 at ≡ false
    → before old (repeated utf text (suc n) at) ≡ before new (repeated utf text n to)
IsPlain utf text at old new None = (n : ℕ) → stands text 93 at ≡ false → repeated utf text (suc n) at ≡ None

-- what the piece at a place makes of the whole
abbrev pub IsTurn : Bool → List ℕ → ℕ → List ℕ → List ℕ → Turn → Type 0
IsTurn utf text at old new (Goes to) = (n : ℕ) → before old (written utf text (suc n) at) ≡ before new
    (written utf text n to)
IsTurn utf text at old new (Ends list) = (n : ℕ) → before old (written utf text (suc n) at) ≡ Some (new, list)
IsTurn utf text at old new Stops = (n : ℕ) → unless_too_long (before old (written utf text (suc n) at)) ≡ None

abbrev pub IsWithin : ℕ → Turn → Type 0
IsWithin end (Goes to) = to ≤ end
IsWithin end (Ends list) = IfSome list (λ to. to ≤ end)
IsWithin end Stops = ⊤
