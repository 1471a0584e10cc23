use Rattle.std.proofs.Common.{length}
use Rattle.grep_multi.proofs.Holding.{Passed}
use Rattle.grep_multi.proofs.held.whole_len.Given as goal

abbrev pub invariant-line : goal.invariant-line
invariant-line l = Passed l.kind l.bytes l.rest

abbrev pub decreases-line : goal.decreases-line
decreases-line l = length l.rest
