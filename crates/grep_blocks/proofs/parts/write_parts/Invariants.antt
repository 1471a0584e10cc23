use Rattle.std.proofs.Common.{◌≡◌, List, ◌∷◌, drop, length, flat_map}
use Rattle.line_feed.specs.Rows.{Row}
use Rattle.ordered_search.specs.PlaceAnswer.{Outcome}
use Rattle.grep_multi.specs.grep_match.Found.{Lists, groups_of}
use Rattle.tool_io.proofs.Writing.{IsLeft}
use Rattle.grep_blocks.specs.BlockText.{matches_out}
use Rattle.grep_blocks.specs.Steps.{IsOnward, rows_at}
use Rattle.grep_blocks.proofs.parts.write_parts.Given as goal

abbrev pub invariant-loop-i : goal.invariant-loop-i
invariant-loop-i g l = record {
  on : (line : Row) (lines : List Row) → rows_at l.job l.fn.from ≡ line ∷ lines → IsOnward l.job line lines l.at;
  groups : (os : List Outcome) → Lists l.job.search.plan.now.only_matching (length l.job.search.text.now) l.found os
      → l.groups ≡ flat_map (groups_of l.job.search.plan.now.only_matching) (drop l.i os);
  left : (line : Row) (lines : List Row) (os : List Outcome) → rows_at l.job l.fn.from ≡ line ∷ lines
      → Lists l.job.search.plan.now.only_matching (length l.job.search.text.now) l.found os
      → IsLeft (matches_out l.job.search.plan.now l.job.name.now l.job.search.text.now line lines os)
      (matches_out l.job.search.plan.now l.job.name.now l.job.search.text.now line lines (drop l.i os))
      (g.O.Sink.tells l.initial.out) (g.O.Sink.tells l.out);
}
