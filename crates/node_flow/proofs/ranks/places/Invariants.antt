use Rattle.std.proofs.Common.{◌≡◌, ℕ, ◌<◌, length, get_or}
use Rattle.node_flow.proofs.ranks.places.Given as goal

abbrev pub invariant-loop-rank : goal.invariant-loop-rank
invariant-loop-rank l = record {
  size : length l.ranks.items ≡ l.count;
  each : (i : ℕ) → i < l.rank → get_or l.ranks.items (get_or l.order i 0) 0 ≡ i;
}
