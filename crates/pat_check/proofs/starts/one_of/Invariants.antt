use Rattle.std.proofs.Common.{length, drop, ℕ, ◌≤◌}
use Rattle.pat_check.specs.Lead.{SomeLead}
use Rattle.pat_check.specs.Starts.{IsSomeLead, AreKept, lead_of_branches}
use Rattle.pat_check.proofs.starts.one_of.Given as goal

abbrev pub invariant-loop-i : goal.invariant-loop-i
invariant-loop-i l = (l.i ≤ length l.branches)
    × ((of : ℕ → SomeLead) → AreKept l.starts of (drop l.i l.branches)
    → IsSomeLead l.whole (lead_of_branches of (drop l.i l.branches)))

abbrev pub decreases-loop-i : goal.decreases-loop-i
decreases-loop-i l = l.i
