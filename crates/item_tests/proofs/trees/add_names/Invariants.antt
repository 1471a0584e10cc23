use Rattle.std.proofs.Common.{true, All, ◌≡◌, ◌≤◌, length}
use Rattle.pat_tree.specs.Refs.{has_group}
use Rattle.item_tests.proofs.trees.add_names.Given as goal

abbrev pub invariant-loop-name : goal.invariant-loop-name
invariant-loop-name l = record {
  count : length l.draft.names ≤ l.name-index;
  stand : All (λ entry. has_group l.draft.nodes entry.group ≡ true) l.draft.names;
  kept : l.draft.nodes ≡ l.fn.draft.nodes;
}
