use Rattle.std.proofs.Common.{◌≡◌, ◌≤◌, drop, length}
use Rattle.pat_save.specs.Fields.{number_of}
use Rattle.pat_save.proofs.fields.number_of.Given as goal

abbrev pub invariant-loop-i : goal.invariant-loop-i
invariant-loop-i l = (l.i ≤ length l.flags) × (l.number ≡ number_of (drop l.i l.flags))

abbrev pub decreases-loop-i : goal.decreases-loop-i
decreases-loop-i l = l.i
