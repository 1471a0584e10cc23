-- The lines before a selected one, of which the last ones are kept.
use Rattle.std.specs.Prelude.{ℕ, ◌+◌, ◌≤◌, List, length}
use Rattle.std.specs.List.{All}
use Rattle.circular_buffer.specs.Buffer.{Buffer}
use Rattle.line_feed.specs.Rows.{Row}

-- so many lines are kept at most, none of them with more bytes than this, and these are
pub record EarlierRows : Type 0 where
  pub limit : ℕ
  pub longest : ℕ
  pub rows : List Row

-- a newline has at most three bytes
abbrev pub IsShort : ℕ → Row → Type 0
IsShort longest row = length row.bytes + length row.newline ≤ longest + 3

-- The last ones of the buffer count. It has no room for more than are kept, and all of them are short, so it holds at
-- most limit * (longest + 3) bytes.
pub record IsKept (limit longest count : ℕ) (buffer : Buffer Row) : Type 0 where
  pub few : count ≤ limit
  pub there : count ≤ length buffer.items
  pub room : buffer.capacity ≤ limit
  pub short : All (IsShort longest) buffer.items
