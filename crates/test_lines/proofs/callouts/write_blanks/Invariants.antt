use Rattle.std.proofs.Common.{◌-◌}
use Rattle.tool_io.proofs.Writing.{IsLeft}
use Rattle.test_lines.specs.Callouts.{blanks}
use Rattle.test_lines.proofs.callouts.write_blanks.Given as goal

abbrev pub invariant-loop-i : goal.invariant-loop-i
invariant-loop-i g l = IsLeft (blanks l.n) (blanks (l.n - l._i)) (g.O.Sink.tells l.initial.out) (g.O.Sink.tells l.out)
