use Rattle.std.proofs.Common.{◌≡◌, ◌≢◌, ◌≤◌, List, length}
use Rattle.pcre_io.specs.Told.{Told}
use Rattle.line_feed.specs.Rows.{Row}
use Rattle.line_feed.specs.declared.phase.Phase.TheVariants.{Closed}
use Rattle.grep_output.specs.declared.shows.Treatment.{Treatment}
use Rattle.grep_match.specs.PatternTexts.{line_end}
use Rattle.grep_output.specs.LittlePast.{bytes_in}
use Rattle.grep_core.specs.Work.{work_of}
use Rattle.grep_core.specs.WholeScans.{Stood}
use Rattle.grep_core.proofs.ScansFollow.{Following}
use Rattle.grep_core.proofs.scan.follow.Given as goal

abbrev pub invariant-line : goal.invariant-line
invariant-line g l = record {
  live : l.feed.phase ≢ Closed;
  within : l.counter ≤ l.end;
  following : (before : Told) (treated : Treatment) (given : List Row)
      → Stood l.job.plan.now treated before (g.S.Source.tells l.initial.source) l.initial.feed given
      → l.initial.feed.kind ≡ line_end l.job.plan.now → l.initial.feed.max ≡ l.job.plan.now.max_buffer_size
      → length l.initial.feed.held ≤ 65536 → l.initial.feed.offset ≡ bytes_in given
      → Following (work_of l.job) treated before given (g.S.Source.tells l.source) l.feed
      (g.O.Sink.tells l.initial.out) (g.O.Sink.tells l.out) l.counter;
}
