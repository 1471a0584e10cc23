use Rattle.std.proofs.Common.{◌≡◌, ◌≤◌, ◌*◌, length, []}
use Rattle.item_tests.proofs.trees.leftmost.Given as goal

abbrev pub invariant-loop-kind : goal.invariant-loop-kind
invariant-loop-kind l = (length l.draft.nodes ≤ 2 * l.kind-index) × (l.draft.names ≡ [])
