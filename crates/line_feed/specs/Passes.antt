-- Whole rows of the bytes held that are given all at once.
use Rattle.std.specs.Prelude.{◌≡◌, ℕ, ◌+◌, ◌-◌, ◌≤◌, ◌<◌, ◌==◌, false, min, List, [], ◌∷◌, length, take, drop, count_by}
use Rattle.std.specs.List.{All}
use Rattle.pcre_io.specs.Told.{Told}
use Rattle.byte_lanes.specs.declared.line_end.EndKind.{EndKind}
use Rattle.byte_lanes.specs.declared.line_end.EndKind.TheVariants.{Lf}
use Rattle.byte_lanes.specs.Newlines.{newline_texts, has_crlf}
use Rattle.line_feed.specs.declared.look.Run.{Run}
use Rattle.line_feed.specs.Rows.{Row, row_with}
use Rattle.line_feed.specs.View.{Feed}
use Rattle.line_feed.specs.Answers.{Gives}

-- These rows were given one after the other, each of at most `longest` bytes, within so many bytes. What the source
-- tells is `now` all the while: nothing is read.
abbrev pub GivesAll : Told → ℕ → ℕ → Feed → Feed → List Row → Type 0
GivesAll now within longest f g [] = g ≡ f
GivesAll now within longest f g (row ∷ rows) =
    let long = length row.bytes + length row.newline in
    (length row.bytes ≤ longest) × (long ≤ within)
    × ((mid : Feed) × Gives f mid now now row × GivesAll now (within - long) longest mid g rows)

-- rows were passed over, of so many bytes in all
pub record Passes (f g : Feed) (within longest bytes : ℕ) : Type 0 where
  pub rows : List Row
  pub gives : (now : Told) → GivesAll now within longest f g rows
  pub offset : g.offset ≡ f.offset + bytes

-- it has passed over so many rows of so many bytes in all, and stands at none
abbrev pub skipped : Feed → ℕ → ℕ → Feed
skipped f bytes rows = record f {
  row = row_with [] [] (f.number + rows) (f.offset + bytes);
  held = drop bytes f.held;
  number = f.number + rows;
  offset = f.offset + bytes;
}

-- each newline of the kind is this byte
abbrev pub IsNewlineByte : EndKind → ℕ → Type 0
IsNewlineByte kind byte = (newline_texts kind ≡ (byte ∷ []) ∷ []) × (has_crlf kind ≡ false)

-- the bytes held begin with such rows, which have at most so many bytes in all, and each of them has a newline
pub record HasRun (f : Feed) (most longest : ℕ) (run : Run) : Type 0 where
  pub passes : Passes f (skipped f run.bytes run.rows) most longest run.bytes
  pub ended : All (λ (row : Row). 0 < length row.newline) passes.rows
  pub some : 0 < run.bytes
  pub within : run.bytes ≤ most
  pub few : run.rows ≤ run.bytes

-- lines end in LF, and of the first bytes held so many at least are one: none of the lines that end there is too long
pub record HoldsLines (f : Feed) (within lines : ℕ) : Type 0 where
  pub kind : f.kind ≡ Lf
  pub held : within ≤ length f.held
  pub room : within ≤ f.max
  pub many : lines ≤ count_by (λ b. b == 10) (take within f.held)

-- rows were passed over, of so many bytes in all, and so many lines at least stand behind them
pub record LeavesLines (f g : Feed) (within lines bytes : ℕ) : Type 0 where
  pub passes : Passes f g within within bytes
  pub holds : HoldsLines g (min within f.max - bytes) lines

-- the row was given without a read, and one line less stands behind it
pub record GivesLine (f g : Feed) : Type 0 where
  pub gives : (now : Told) → Gives f g now now g.row
  pub fits : (within lines : ℕ) → HoldsLines f within (lines + 1)
      → length g.row.bytes + length g.row.newline ≤ within
  pub holds : (within lines : ℕ) → HoldsLines f within (lines + 1)
      → HoldsLines g (within - (length g.row.bytes + length g.row.newline)) lines
