use Rattle.std.proofs.Common.{◌≡◌, ℕ, ◌<◌, ◌≤◌, ◌-◌, true, length, get_or}
use Rattle.c_door.specs.Runs.{goes_on}
use Rattle.c_door.proofs.runs.begin_of.Given as goal

abbrev pub invariant-loop-at : goal.invariant-loop-at
invariant-loop-at l =
    record {
      past : l.start ≤ l.at;
      within : l.at ≤ length l.text;
      inside : (k : ℕ) → l.start ≤ k → k < l.at → goes_on (get_or l.text k 0) ≡ true;
    }

abbrev pub decreases-loop-at : goal.decreases-loop-at
decreases-loop-at l = length l.text - l.at
