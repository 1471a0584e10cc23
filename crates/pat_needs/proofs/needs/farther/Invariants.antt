use Rattle.std.proofs.Common.{◌≤◌, length}
use Rattle.std.specs.Prelude.{IfSome}
use Rattle.pat_tree.specs.Nested.{tree_at, trees}
use Rattle.pat_needs.specs.NeedTables.{may_of}
use Rattle.pat_needs.proofs.ChoiceLemmas.{IsFar}
use Rattle.pat_needs.proofs.needs.farther.Given as goal

abbrev pub invariant-loop-i : goal.invariant-loop-i
invariant-loop-i l = record {
  within : l.i ≤ length l.parts;
  best : IfSome l.best (IsFar (may_of l.tree) l.tree.options.utf (tree_at (trees l.tree.nodes)) l.parts l.i);
}

abbrev pub decreases-loop-i : goal.decreases-loop-i
decreases-loop-i l = l.i
