use Rattle.std.proofs.Common.{◌≡◌, ◌+◌, length}
use Rattle.pat_lengths.proofs.passing.in_order.Given as goal

abbrev pub invariant-loop-id : goal.invariant-loop-id
invariant-loop-id l = length l.answers.items ≡ l.tree.root + 1
