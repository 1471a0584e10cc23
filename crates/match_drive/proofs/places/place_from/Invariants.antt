use Rattle.std.proofs.Common.{◌≤◌, ◌<◌, ◌-◌, ℕ}
use Rattle.uni_text.specs.Characters.{IsPlace}
use Rattle.match_drive.proofs.places.place_from.Given as goal

-- no character begins before the place
abbrev pub invariant-bytes : goal.invariant-bytes
invariant-bytes l = record {
  low : l.fn.from ≤ l.at;
  high : l.at ≤ l.to;
  inside : (k : ℕ) → l.fn.from ≤ k → k < l.at → IsPlace l.utf l.bytes k → ⊥;
}

abbrev pub decreases-bytes : goal.decreases-bytes
decreases-bytes l = l.to - l.at
