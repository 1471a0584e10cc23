use Rattle.std.proofs.Common.{◌≢◌, ◌≤◌, ◌+◌, length}
use Rattle.line_feed.specs.declared.phase.Phase.TheVariants.{Closed}
use Rattle.line_feed.specs.Passes.{Passes}
use Rattle.line_feed.proofs.feed.LineFeed.pass.Given as goal

abbrev pub invariant-run : goal.invariant-run
invariant-run l = record {
  passes : Passes l.initial.self l.self l.within l.longest l.passed;
  live : l.self.phase ≢ Closed;
  within : l.passed ≤ l.within;
  held : l.within ≤ l.passed + length l.self.held;
}

abbrev pub decreases-run : goal.decreases-run
decreases-run l = length l.self.held
