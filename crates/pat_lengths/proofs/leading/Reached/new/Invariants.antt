use Rattle.std.proofs.Common.{◌≡◌, false, replicate}
use Rattle.pat_lengths.proofs.leading.Reached.new.Given as goal

abbrev pub invariant-loop : goal.invariant-loop
invariant-loop l = l.seen.items ≡ replicate l.counter false
