use Rattle.std.proofs.Common.{◌≡◌, ℕ, ◌+◌, ◌≤◌, ◌⊎◌, ◌||◌, ◌&&◌, nat_lt, nat_le}
use Rattle.byte_lanes.specs.Sets.{has_byte}
use Rattle.char_sets.proofs.bytes.add_range.Given as goal

abbrev pub invariant-loop-b : goal.invariant-loop-b
invariant-loop-b l = record {
  from : l.first ≤ l.b;
  within : (l.b ≤ l.last + 1) ⊎ (l.b ≡ l.first);
  bytes : (k : ℕ) → has_byte l.bytes k ≡ (has_byte l.initial.bytes k || (nat_le l.first k && nat_lt k l.b));
}
