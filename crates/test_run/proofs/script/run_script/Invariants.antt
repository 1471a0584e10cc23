use Rattle.std.proofs.Common.{◌-◌, ◌^◌}
use Rattle.test_run.specs.Searches.{course_of}
use Rattle.test_run.proofs.Scripts.{Running}
use Rattle.test_run.proofs.script.run_script.Given as goal

abbrev pub invariant-line : goal.invariant-line
invariant-line g l =
    Running l.plan.defaults (g.S.Source.tells l.fn.source) (g.S.Source.tells l.source) l.feed l.run.reader
    (course_of l.run.course)
    (g.O.Sink.tells l.fn.out) (g.O.Sink.tells l.out)

abbrev pub decreases-line : goal.decreases-line
decreases-line g l = 2 ^ 40 - l.feed.offset
