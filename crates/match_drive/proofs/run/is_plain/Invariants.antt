use Rattle.std.proofs.Common.{ℕ, ◌<◌}
use Rattle.pat_tree.specs.Nested.{tree_at, trees}
use Rattle.ordered_search.specs.Plain.{IsPlain}
use Rattle.match_drive.proofs.run.is_plain.Given as goal

-- the trees of the nodes so far are plain
abbrev pub invariant-loop-id : goal.invariant-loop-id
invariant-loop-id l = (k : ℕ) → k < l.id → IsPlain (tree_at (trees l.tree.nodes) k)
