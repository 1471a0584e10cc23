use Rattle.std.proofs.Common.{length, ◌-◌, ◌≤◌}
use Rattle.pat_needs.proofs.needs.further_on.Given as goal

abbrev pub invariant-items : goal.invariant-items
invariant-items l = l.from ≤ length l.parts

abbrev pub decreases-items : goal.decreases-items
decreases-items l = length l.parts - l.from
