use Rattle.std.proofs.Common.{drop}
use Rattle.tool_io.proofs.Writing.{IsLeft}
use Rattle.test_run.specs.Dfa.{ends_text}
use Rattle.test_run.proofs.dfa.write_ends.Given as goal

abbrev pub invariant-loop-n : goal.invariant-loop-n
invariant-loop-n g l =
    IsLeft (ends_text l.utf l.subject l.found.start 0 l.found.ends)
    (ends_text l.utf l.subject l.found.start l.n (drop l.n l.found.ends))
    (g.O.Sink.tells l.initial.out) (g.O.Sink.tells l.out)
