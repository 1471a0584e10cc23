use Rattle.std.proofs.Common.{◌-◌, length}
use Rattle.subst_plan.proofs.Turns.{Reads}
use Rattle.subst_plan.proofs.reading.pieces_of.Given as goal

abbrev pub invariant-loop-at : goal.invariant-loop-at
invariant-loop-at l = Reads l.extended l.utf l.text l.pieces.items l.nest.items l.at

abbrev pub decreases-loop-at : goal.decreases-loop-at
decreases-loop-at l = length l.text - l.at
