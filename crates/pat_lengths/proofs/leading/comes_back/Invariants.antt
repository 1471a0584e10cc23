use Rattle.std.proofs.Common.{◌≡◌, ℕ, ◌+◌, true, Some, All, take, length}
use Rattle.pat_tree.specs.Nested.{trees}
use Rattle.pat_tree.specs.Parts.{tree_of}
use Rattle.pat_lengths.specs.Leading.{is_reached, IsListed, Leads, Closed}
use Rattle.pat_lengths.specs.Passing.{place_of}
use Rattle.pat_lengths.proofs.leading.comes_back.Given as goal

abbrev pub invariant-loop-next : goal.invariant-loop-next
invariant-loop-next l = record {
  listed : IsListed l.reached;
  size : length l.reached.seen.items ≡ l.tree.root + 1;
  start : (k : ℕ) → place_of l.groups.places.items l.target ≡ Some k → is_reached l.reached k ≡ true;
  sound : (k : ℕ) → is_reached l.reached k ≡ true →
      Leads (tree_of l.tree) (trees l.tree.nodes) l.target k;
  closed : All (Closed (trees l.tree.nodes) l.groups.places.items l.target l.reached.seen.items)
      (take l.next l.reached.nodes.items);
}
