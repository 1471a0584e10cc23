use Rattle.std.proofs.Common.{◌≤◌, ◌<◌, ◌-◌, ℕ, length}
use Rattle.match_starts.specs.Spans.{IsShort}
use Rattle.match_starts.proofs.spans.first_long.Given as goal

-- too few stand from each place before
abbrev pub invariant-spans : goal.invariant-spans
invariant-spans l = record {
  low : l.fn.from ≤ l.at;
  high : l.at ≤ length l.bytes;
  few : (k : ℕ) → l.fn.from ≤ k → k < l.at → IsShort l.set l.bytes l.least k;
}

abbrev pub decreases-spans : goal.decreases-spans
decreases-spans l = length l.bytes - l.at
