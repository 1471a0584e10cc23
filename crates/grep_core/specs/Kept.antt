-- Lines that are given one after the other and kept for a later one.
use Rattle.std.specs.Prelude.{◌≡◌, ℕ, ◌+◌, ◌≤◌, List, [], ◌∷◌, ◌++◌, length}
use Rattle.circular_buffer.specs.Buffer.{keep_last}
use Rattle.pcre_io.specs.Told.{Told}
use Rattle.line_feed.specs.Rows.{Row}
use Rattle.line_feed.specs.View.{Feed}
use Rattle.line_feed.specs.Passes.{GivesAll}
use Rattle.grep_output.specs.Earlier.{EarlierRows}

-- the last ones of some rows and of those that are added to them, one after the other
abbrev pub kept_rows : ℕ → List Row → List Row → List Row
kept_rows limit kept [] = kept
kept_rows limit kept (row ∷ rows) = kept_rows limit (keep_last limit (kept ++ row ∷ [])) rows

-- so many rows, of so many bytes in all, were given and kept
pub record KeepsLines (f g : Feed) (old new : EarlierRows) (within lines bytes : ℕ) : Type 0 where
  pub rows : List Row
  pub many : length rows ≡ lines
  pub gives : (now : Told) → GivesAll now within within f g rows
  pub offset : g.offset ≡ f.offset + bytes
  pub fits : bytes ≤ within
  pub kept : new ≡ record old { rows = kept_rows old.limit old.rows rows }
