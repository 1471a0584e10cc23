use Rattle.std.proofs.Common.{◌≡◌, ◌≤◌, nat_eq, [], ◌++◌, ◌⊎◌, All, flat_map, length, reverse}
use Rattle.std.specs.List.{IsDistinct}
use Rattle.pat_tree.specs.Sound.{children}
use Rattle.node_flow.specs.Order.{order}
use Rattle.node_flow.proofs.ranks.preorder.Given as goal

abbrev pub invariant-loop-id : goal.invariant-loop-id
invariant-loop-id l = record {
  parts : l.order.items ++ flat_map (order l.tree.nodes) (reverse l.waiting.items) ≡ order l.tree.nodes l.tree.root;
  below : All (λ k. k ≤ l.tree.root) l.waiting.items;
  done : All (λ k. k ≤ l.tree.root) l.order.items;
  -- once a node was seen it is known that each child has one parent
  once : (l.order.items ≡ []) ⊎ IsDistinct nat_eq (children l.tree.nodes);
}

abbrev pub decreases-loop-id : goal.decreases-loop-id
decreases-loop-id l = length (flat_map (order l.tree.nodes) (reverse l.waiting.items))
