use Rattle.std.proofs.Common.{drop, flat_map, false}
use Rattle.grep_output.specs.Course.{line_as}
use Rattle.tool_io.proofs.Writing.{IsLeft}
use Rattle.grep_core.proofs.lines.write_earlier.Given as goal

abbrev pub invariant-loop-i : goal.invariant-loop-i
invariant-loop-i g l =
    IsLeft (flat_map (line_as l.job.plan.now l.job.name.now false) l.earlier.rows)
    (flat_map (line_as l.job.plan.now l.job.name.now false) (drop l.i l.earlier.rows))
    (g.O.Sink.tells l.initial.out) (g.O.Sink.tells l.out)
