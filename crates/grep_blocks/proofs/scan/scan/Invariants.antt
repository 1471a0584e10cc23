use Rattle.std.proofs.Common.{◌≡◌, ◌-◌, List, length, IfSome}
use Rattle.std.specs.Str.{is_utf8}
use Rattle.line_feed.specs.Rows.{Row, Finish}
use Rattle.grep_output.specs.Ends.{ended_of}
use Rattle.grep_output.specs.Scans.{at_finish}
use Rattle.tool_io.specs.Printed.{printed}
use Rattle.grep_blocks.specs.Scanned.{Keeps}
use Rattle.grep_blocks.proofs.Scanning.{Left}
use Rattle.grep_blocks.proofs.scan.scan.Given as goal

abbrev pub invariant-block : goal.invariant-block
invariant-block g l = record {
  keeps : Keeps l.job l.course;
  known : IfSome l.work.utf8 (λ b. b ≡ is_utf8 l.job.search.text.now);
  left : (finish : Finish) → ended_of l.job.finish ≡ at_finish finish
      → (gap : List Row) × Left l.job finish l.initial.course l.course
      (printed (g.O.Sink.tells l.initial.out) (g.E.Sink.tells l.initial.err))
      (printed (g.O.Sink.tells l.out) (g.E.Sink.tells l.err)) gap;
}

abbrev pub decreases-block : goal.decreases-block
decreases-block g l = length l.job.search.text.now - l.course.from.at
