-- Expressions that match in a text whatever they match in a line of it.
use Rattle.std.specs.Prelude.{◌≡◌, ◌≤◌, ℕ, ◌+◌, ◌⊎◌, ⊤, false, List, ◌++◌, length, Some, None, slice_get}
use Rattle.regex_class.specs.Ranges.{in_ranges}
use Rattle.regex_hir.specs.Text.{byte_before}
use Rattle.regex_hir.specs.declared.look.Look.{Look}
use Rattle.regex_hir.specs.declared.look.Look.TheVariants.{StartLf, EndLf, WordAscii, WordAsciiNegate}
use Rattle.regex_hir.specs.Re.{Re, empty, literal, byte_in, char_in, look, cat, alt, group, plus}
use Rattle.regex_hir.specs.Matches.{Matches}

-- the line begins where the text begins or behind an LF, and ends before one or where the text ends
pub record IsLine (before line after : List ℕ) : Type 0 where
  pub front : (byte_before (before ++ (line ++ after)) (length before) ≡ None)
      ⊎ (byte_before (before ++ (line ++ after)) (length before) ≡ Some 10)
  pub back : (slice_get (before ++ (line ++ after)) (length before + length line) ≡ None)
      ⊎ (slice_get (before ++ (line ++ after)) (length before + length line) ≡ Some 10)

-- an assertion that sees an LF and the text's edge alike
abbrev pub IsLineLook : Look → Type 0
IsLineLook StartLf = ⊤
IsLineLook EndLf = ⊤
IsLineLook WordAscii = ⊤
IsLineLook WordAsciiNegate = ⊤
IsLineLook _ = ⊥

-- all its assertions are such
abbrev pub SeesLines : Re → Type 0
SeesLines empty = Unit {0}
SeesLines (literal bs) = Unit {0}
SeesLines (byte_in rs) = Unit {0}
SeesLines (char_in rs) = Unit {0}
SeesLines (look l) = IsLineLook l
SeesLines (cat a b) = SeesLines a × SeesLines b
SeesLines (alt a b) = SeesLines a × SeesLines b
SeesLines (group n a) = SeesLines a
SeesLines (plus greedy a) = SeesLines a

-- what matches in a line matches in the text that holds it
abbrev pub SliceLaw : Type 0
SliceLaw =
    (re : Re) → SeesLines re → (before line after : List ℕ) → IsLine before line after
    → (i j : ℕ) → i ≤ length line → Matches line re i j
    → Matches (before ++ (line ++ after)) re (length before + i) (length before + j)

-- it takes no LF, and its assertions are such
abbrev pub TakesNoLf : Re → Type 0
TakesNoLf empty = Unit {0}
TakesNoLf (literal bs) = ⊥
TakesNoLf (byte_in rs) = in_ranges rs 10 ≡ false
TakesNoLf (char_in rs) = ⊥
TakesNoLf (look l) = IsLineLook l
TakesNoLf (cat a b) = TakesNoLf a × TakesNoLf b
TakesNoLf (alt a b) = TakesNoLf a × TakesNoLf b
TakesNoLf (group n a) = TakesNoLf a
TakesNoLf (plus greedy a) = TakesNoLf a

-- what of it matches from a place of a line on in a text that holds the line, matches in the line
abbrev pub InsideLaw : Type 0
InsideLaw =
    (re : Re) → TakesNoLf re → (before line after : List ℕ) → IsLine before line after
    → (i j : ℕ) → i ≤ length line → Matches (before ++ (line ++ after)) re (length before + i) j
    → (k : ℕ) × Matches line re i k
