use Rattle.std.proofs.Common.{◌≡◌, ◌≤◌, ◌-◌, length, drop}
use Rattle.pat_lex.specs.Classes.{mark_again}
use Rattle.pat_lex.proofs.classes.mark_again.Given as goal

abbrev pub invariant-loop-i : goal.invariant-loop-i
invariant-loop-i l =
    (l.from ≤ l.i) × (l.i ≤ length l.text) × (mark_again l.mark l.i (drop l.i l.text) ≡ mark_again l.mark l.from
    (drop l.from l.text))

abbrev pub decreases-loop-i : goal.decreases-loop-i
decreases-loop-i l = length l.text - l.i
