use Rattle.std.proofs.Common.{length, drop, ℕ, ◌≤◌}
use Rattle.pat_check.specs.Lead.{SomeLead}
use Rattle.pat_check.specs.Starts.{IsSomeLead, AreKept, lead_of_parts}
use Rattle.pat_check.proofs.starts.in_turn.Given as goal

abbrev pub invariant-loop-i : goal.invariant-loop-i
invariant-loop-i l = (l.i ≤ length l.parts)
    × ((of : ℕ → SomeLead) → AreKept l.starts of (drop l.i l.parts)
    → IsSomeLead l.whole (lead_of_parts of (drop l.i l.parts)))

abbrev pub decreases-loop-i : goal.decreases-loop-i
decreases-loop-i l = l.i
