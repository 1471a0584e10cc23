use Rattle.std.proofs.Common.{◌≡◌}
use Rattle.pat_bounds.specs.Bounds as spec
use Rattle.pat_bounds.proofs.bounds.Bound.few_turns.Given as goal

abbrev pub invariant-loop : goal.invariant-loop
invariant-loop l = l.whole ≡ spec.few_turns l.counter l.fn.self
