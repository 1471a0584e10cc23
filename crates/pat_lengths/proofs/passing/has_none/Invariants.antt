use Rattle.std.proofs.Common.{◌≡◌, ℕ, ◌<◌, false}
use Rattle.pat_lengths.specs.Passing.{flagged}
use Rattle.pat_lengths.proofs.passing.has_none.Given as goal

abbrev pub invariant-loop-n : goal.invariant-loop-n
invariant-loop-n l = (k : ℕ) → k < l.n → flagged l.flags k ≡ false
