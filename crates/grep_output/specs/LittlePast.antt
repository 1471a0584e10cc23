-- How much of an input is taken past its lines.
use Rattle.std.specs.Prelude.{ℕ, ◌+◌, ◌≤◌, List, length, sum_by}
use Rattle.std.specs.Io.KnownBytes.{Consumes}
use Rattle.pcre_io.specs.Told.{Told}
use Rattle.line_feed.specs.Rows.{Row}

-- how many bytes these rows have, with their newlines
abbrev pub bytes_in : List Row → ℕ
bytes_in rows = sum_by (λ (r : Row). length r.bytes + length r.newline) rows

-- of a source that stood so, and then so, at most 65,536 bytes past these rows were taken
abbrev pub TakesLittlePast : List Row → Told → Told → Type 0
TakesLittlePast rows before after =
    (taken : List ℕ) × Consumes before.left after.left taken
    × (length taken ≤ bytes_in rows + 65536)
