use Rattle.std.proofs.Common.{suc}
use Rattle.pat_lengths.specs.Spans.{AreBehind}
use Rattle.pat_lengths.proofs.behind.settled.Given as goal

abbrev pub invariant-loop : goal.invariant-loop
invariant-loop l = AreBehind l.tree l.any (suc l.counter) l.of.items
