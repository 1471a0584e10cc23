use Rattle.std.proofs.Common.{◌-◌, ◌≤◌}
use Rattle.pat_needs.proofs.same.have_same_members.Given as goal

abbrev pub invariant-members : goal.invariant-members
invariant-members l = l.from ≤ 257

abbrev pub decreases-members : goal.decreases-members
decreases-members l = 257 - l.from
