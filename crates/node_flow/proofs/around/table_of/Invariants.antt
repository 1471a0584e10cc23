use Rattle.std.proofs.Common.{◌≡◌, ℕ, ◌+◌, ◌<◌, ◌≤◌, ◌⊎◌, nat_eq, take, drop, length, get_or, None}
use Rattle.std.specs.List.{IsDistinct}
use Rattle.pat_tree.specs.Growing.{AreBelow}
use Rattle.pat_tree.specs.Sound.{children}
use Rattle.node_flow.specs.Around.{told_among}
use Rattle.node_flow.specs.LookBranches.{child_of}
use Rattle.node_flow.proofs.around.table_of.Given as goal

-- what is told is told by the nodes from id on
abbrev pub invariant-loop-id : goal.invariant-loop-id
invariant-loop-id l = record {
  within : l.id ≤ l.tree.root + 1;
  size : length l.told.items ≡ l.tree.root + 1;
  told : (k : ℕ) → k ≤ l.tree.root → get_or l.told.items k None ≡ told_among (child_of l.around) l.id
      (drop l.id (take (l.tree.root + 1) l.tree.nodes)) k;
  below : AreBelow l.id (drop l.id (take (l.tree.root + 1) l.tree.nodes));
  -- once the root was seen
  known : (l.id ≡ l.tree.root + 1) ⊎ ((l.tree.root < length l.tree.nodes) × IsDistinct nat_eq (children l.tree.nodes));
}

abbrev pub decreases-loop-id : goal.decreases-loop-id
decreases-loop-id l = l.id
