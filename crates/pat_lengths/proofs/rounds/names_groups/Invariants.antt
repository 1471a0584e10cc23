use Rattle.std.proofs.Common.{◌≡◌, ◌<◌, ℕ, []}
use Rattle.pat_tree.specs.Nested.{trees, tree_at}
use Rattle.pat_lengths.specs.Nodes.{named_in}
use Rattle.pat_lengths.proofs.rounds.names_groups.Given as goal

abbrev pub invariant-loop-id : goal.invariant-loop-id
invariant-loop-id l = (k : ℕ) → k < l.id → named_in (tree_at (trees l.tree.nodes) k) ≡ []
