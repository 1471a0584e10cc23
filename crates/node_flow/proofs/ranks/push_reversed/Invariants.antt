use Rattle.std.proofs.Common.{◌≡◌, ◌≤◌, ◌++◌, length, drop, reverse}
use Rattle.node_flow.proofs.ranks.push_reversed.Given as goal

abbrev pub invariant-loop-i : goal.invariant-loop-i
invariant-loop-i l = (l.i ≤ length l.ids) × (l.waiting.items ≡ l.initial.waiting.items ++ reverse (drop l.i l.ids))

abbrev pub decreases-loop-i : goal.decreases-loop-i
decreases-loop-i l = l.i
