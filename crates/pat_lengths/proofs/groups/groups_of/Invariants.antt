use Rattle.std.proofs.Common.{◌≡◌, ◌≤◌, ◌+◌, length, map, drop}
use Rattle.pat_tree.specs.Nested.{trees, tree_at}
use Rattle.pat_tree.specs.Sound.{greatest, group_numbers}
use Rattle.pat_lengths.specs.Passing.{ArePlaced, AreGroups}
use Rattle.pat_lengths.proofs.groups.groups_of.Given as goal

abbrev pub invariant-loop-i : goal.invariant-loop-i
invariant-loop-i l = record {
  within : l.i ≤ length l.order;
  are : AreGroups (trees l.tree.nodes) l.tree.root l.groups (map (tree_at (trees l.tree.nodes)) (drop l.i l.order));
  placed : ArePlaced (trees l.tree.nodes) (drop l.i l.order) l.groups.places.items;
  room : length l.groups.places.items ≡ greatest (group_numbers l.tree.nodes) + 1;
  few : l.groups.count + l.i ≤ length l.order;
}

abbrev pub decreases-loop-i : goal.decreases-loop-i
decreases-loop-i l = l.i
