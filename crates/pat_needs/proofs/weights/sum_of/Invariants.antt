use Rattle.std.proofs.Common.{◌-◌, ◌≤◌}
use Rattle.pat_needs.proofs.weights.sum_of.Given as goal

abbrev pub invariant-members : goal.invariant-members
invariant-members l = l.from ≤ 257

abbrev pub decreases-members : goal.decreases-members
decreases-members l = 257 - l.from
