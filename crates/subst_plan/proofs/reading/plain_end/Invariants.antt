use Rattle.std.proofs.Common.{◌≡◌}
use Rattle.subst_plan.specs.Reading.{plain_end}
use Rattle.subst_plan.proofs.reading.plain_end.Given as goal

abbrev pub invariant-loop-i : goal.invariant-loop-i
invariant-loop-i l = plain_end l.text l.extended l.inner l.i ≡ plain_end l.text l.extended l.inner l.from
