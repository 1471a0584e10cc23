use Rattle.pat_lengths.specs.Rings.{IsPlan}
use Rattle.pat_lengths.proofs.rings.rings_of.Given as goal

abbrev pub invariant-loop-step : goal.invariant-loop-step
invariant-loop-step l = IsPlan l.tree.root l.plan
