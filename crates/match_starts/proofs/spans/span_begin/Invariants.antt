use Rattle.std.proofs.Common.{◌≤◌}
use Rattle.match_starts.proofs.spans.span_begin.Given as goal

abbrev pub invariant-bytes : goal.invariant-bytes
invariant-bytes l = record {
  low : l.fn.from ≤ l.at;
  high : l.at ≤ l.to;
}

abbrev pub decreases-bytes : goal.decreases-bytes
decreases-bytes l = l.at
