use Rattle.std.proofs.Common.{ℕ, ◌≤◌, Bool, length, drop, map}
use Rattle.pat_tree.specs.declared.nodes.Item.{Item}
use Rattle.pat_tree.specs.Nested.{Nested, row}
use Rattle.pat_needs.specs.NeedTables.{AreNeeds, IsRun}
use Rattle.pat_needs.proofs.choice.run_at.Given as goal

abbrev pub invariant-loop-i : goal.invariant-loop-i
invariant-loop-i l = record {
  within : l.i ≤ length l.parts;
  from : l.at ≤ l.i;
  is : (may : Item → ℕ → Bool) (utf anywhere : Bool) (of : ℕ → Nested)
      → AreNeeds may utf anywhere of l.needs (drop l.i l.parts) → IsRun may utf (row (map of (drop l.i l.parts))) l.run;
}

abbrev pub decreases-loop-i : goal.decreases-loop-i
decreases-loop-i l = l.i
