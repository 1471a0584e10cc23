use Rattle.std.proofs.Common.{◌≡◌}
use Rattle.subst_plan.specs.Reading.{quote_end}
use Rattle.subst_plan.proofs.escapes.quote_end.Given as goal

abbrev pub invariant-loop-i : goal.invariant-loop-i
invariant-loop-i l = quote_end l.text l.i ≡ quote_end l.text l.from
