use Rattle.std.proofs.Common.{◌≡◌, ◌+◌, ◌-◌, ◌<◌, ◌≤◌, List, ◌∷◌, length}
use Rattle.line_feed.specs.Rows.{Row}
use Rattle.grep_multi.specs.Blocks.{last_line, lines_before}
use Rattle.grep_blocks.specs.Steps.{IsOnward, IsStart, rows_at}
use Rattle.grep_blocks.proofs.parts.line_with.Given as goal

abbrev pub invariant-line : goal.invariant-line
invariant-line l = record {
  start : IsStart l.job l.at;
  some : l.at.at < length l.job.search.text.now;
  later : l.fn.from.at ≤ l.at.at;
  on : (line : Row) (lines : List Row) → rows_at l.job l.fn.from ≡ line ∷ lines → IsOnward l.job line lines l.at;
  holds : (line : Row) (lines : List Row) → rows_at l.job l.fn.from ≡ line ∷ lines
      → (first : Row) (rest : List Row) → rows_at l.job l.at ≡ first ∷ rest
      → last_line line (lines_before (l.place + 1) lines) ≡ last_line first (lines_before (l.place + 1) rest);
}

abbrev pub decreases-line : goal.decreases-line
decreases-line l = length l.job.search.text.now - l.at.at
