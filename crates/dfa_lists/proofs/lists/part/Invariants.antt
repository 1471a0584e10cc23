use Rattle.std.proofs.Common.{◌≡◌, ◌-◌, ◌++◌, length, drop}
use Rattle.dfa_lists.specs.Lists.{waiting_at, elsewhere}
use Rattle.dfa_lists.proofs.lists.part.Given as goal

abbrev pub invariant-pending : goal.invariant-pending
invariant-pending l = record {
  seeds : l.seeds.items ++ waiting_at l.at (drop l.k l.pending) ≡ waiting_at l.at l.pending;
  later : l.later.items ++ elsewhere l.at (drop l.k l.pending) ≡ elsewhere l.at l.pending;
}

abbrev pub decreases-pending : goal.decreases-pending
decreases-pending l = length l.pending - l.k
