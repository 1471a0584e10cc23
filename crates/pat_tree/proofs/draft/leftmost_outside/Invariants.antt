use Rattle.std.proofs.Common.{◌≡◌, ◌≤◌, length, drop}
use Rattle.pat_tree.specs.Refs.{bad_ref, marked, refs}
use Rattle.pat_tree.proofs.draft.leftmost_outside.Given as goal

abbrev pub invariant-loop-i : goal.invariant-loop-i
invariant-loop-i l = (l.i ≤ length l.nodes) × (l.leftmost ≡ bad_ref (marked l.groups) (refs (drop l.i l.nodes)))

abbrev pub decreases-loop-i : goal.decreases-loop-i
decreases-loop-i l = l.i
