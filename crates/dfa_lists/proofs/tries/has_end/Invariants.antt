use Rattle.std.proofs.Common.{◌-◌, length, drop}
use Rattle.dfa_ends.specs.Ends.{Among}
use Rattle.dfa_lists.proofs.tries.has_end.Given as goal

abbrev pub invariant-ends : goal.invariant-ends
invariant-ends l = Among l.at l.ends → Among l.at (drop l.k l.ends)

abbrev pub decreases-ends : goal.decreases-ends
decreases-ends l = length l.ends - l.k
