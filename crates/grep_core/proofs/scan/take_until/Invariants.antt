use Rattle.std.proofs.Common.{◌≡◌, ◌-◌, ◌^◌, IfSome}
use Rattle.grep_match.specs.Compiled.{patterns_in}
use Rattle.grep_watch.specs.Filtered.{Filters}
use Rattle.grep_core.specs.Work.{work_of, progress, fed, position}
use Rattle.grep_core.specs.WholeScans.{IsJob}
use Rattle.grep_core.specs.Underway.{IsReady, Origin, StandsAt}
use Rattle.tool_io.specs.Printed.{printed}
use Rattle.grep_core.proofs.scan.take_until.Given as goal

abbrev pub invariant-line : goal.invariant-line
invariant-line g l = record {
  ready : IsReady l.job l.scanner.feed l.course l.scanner.state l.part.watch;
  until : l.part.until ≡ l.initial.part.until;
  filter : IfSome l.part.filter (Filters l.job.plan.now (patterns_in l.job.patterns.now));
  standing : (from : Origin) → IsJob l.job.plan.now from.treated l.job.show l.job.most from.feed
      → StandsAt (work_of l.job) l.job.most from
      (position (fed l.initial.scanner.feed (g.S.Source.tells l.initial.source))
      (progress l.initial.course l.initial.scanner.state
      (printed (g.O.Sink.tells l.initial.out) (g.E.Sink.tells l.initial.err))))
      → StandsAt (work_of l.job) l.job.most from
      (position (fed l.scanner.feed (g.S.Source.tells l.source))
      (progress l.course l.scanner.state (printed (g.O.Sink.tells l.out) (g.E.Sink.tells l.err))));
}

abbrev pub decreases-line : goal.decreases-line
decreases-line g l = 2 ^ 40 - l.scanner.feed.offset
