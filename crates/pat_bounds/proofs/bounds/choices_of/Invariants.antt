use Rattle.std.proofs.Common.{◌≤◌, length, drop}
use Rattle.pat_bounds.specs.BoundTables.{RefinesChoices}
use Rattle.pat_bounds.proofs.bounds.choices_of.Given as goal

abbrev pub invariant-loop-i : goal.invariant-loop-i
invariant-loop-i l = record {
  within : l.i ≤ length l.branches;
  is : RefinesChoices l.tree l.bounds l.whole (drop l.i l.branches);
}

abbrev pub decreases-loop-i : goal.decreases-loop-i
decreases-loop-i l = l.i
