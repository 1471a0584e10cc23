use Rattle.std.proofs.Common.{◌≤◌, ◌<◌, ◌-◌, ℕ, length}
use Rattle.match_starts.specs.Spans.{IsOpen}
use Rattle.match_starts.proofs.spans.first_closed.Given as goal

-- no end closes enough of what stands from each place before
abbrev pub invariant-spans : goal.invariant-spans
invariant-spans l = record {
  low : l.fn.from ≤ l.at;
  high : l.at ≤ length l.bytes;
  before : (k : ℕ) → l.fn.from ≤ k → k < l.at → IsOpen l.set l.ends l.bytes l.least k;
}

abbrev pub decreases-spans : goal.decreases-spans
decreases-spans l = length l.bytes - l.at
