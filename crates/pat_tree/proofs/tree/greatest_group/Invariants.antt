use Rattle.std.proofs.Common.{◌≡◌, ◌≤◌, length, drop}
use Rattle.pat_tree.specs.Sound.{group_numbers, greatest}
use Rattle.pat_tree.proofs.tree.greatest_group.Given as goal

abbrev pub invariant-loop-i : goal.invariant-loop-i
invariant-loop-i l = (l.i ≤ length l.nodes) × (l.most ≡ greatest (group_numbers (drop l.i l.nodes)))

abbrev pub decreases-loop-i : goal.decreases-loop-i
decreases-loop-i l = l.i
