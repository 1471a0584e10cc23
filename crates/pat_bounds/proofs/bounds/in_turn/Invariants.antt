use Rattle.std.proofs.Common.{◌≤◌, length, drop}
use Rattle.pat_bounds.specs.BoundTables.{RefinesTurn}
use Rattle.pat_bounds.proofs.bounds.in_turn.Given as goal

abbrev pub invariant-loop-i : goal.invariant-loop-i
invariant-loop-i l = record {
  within : l.i ≤ length l.parts;
  is : RefinesTurn l.tree l.bounds l.whole (drop l.i l.parts);
}

abbrev pub decreases-loop-i : goal.decreases-loop-i
decreases-loop-i l = l.i
