use Rattle.std.proofs.Common.{◌≢◌, ◌≤◌, ℕ}
use Rattle.line_feed.specs.Passes.{HoldsLines}
use Rattle.line_feed.specs.declared.phase.Phase.TheVariants.{Closed}
use Rattle.grep_core.proofs.Keeping.{KeptSo}
use Rattle.grep_core.proofs.quiet.keep_lines.Given as goal

abbrev pub invariant-line : goal.invariant-line
invariant-line l = record {
  live : l.feed.phase ≢ Closed;
  within : l.counter ≤ l.lines;
  kept : (within : ℕ) → HoldsLines l.initial.feed within l.lines
      → KeptSo l.initial.feed l.feed l.initial.earlier l.earlier within l.lines l.counter l.bytes;
}
