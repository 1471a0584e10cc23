use Rattle.std.proofs.Common.{◌-◌, ◌+◌, ◌≤◌, [], length}
use Rattle.line_feed.specs.declared.phase.Phase.TheVariants as phase
use Rattle.grep_multi.specs.Taken.{Takes}
use Rattle.grep_multi.proofs.held.take_all.Given as goal

abbrev pub invariant-piece : goal.invariant-piece
invariant-piece g l = record {
  takes : Takes [] l.bytes.items (g.S.Source.tells l.initial.source) (g.S.Source.tells l.source) phase.Open;
  room : length l.bytes.items ≤ 16777216 + 65536;
}

abbrev pub decreases-piece : goal.decreases-piece
decreases-piece g l = 16777217 - length l.bytes.items
