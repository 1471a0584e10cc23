use Rattle.std.proofs.Common.{◌≡◌, ◌++◌, map, take}
use Rattle.subst_plan.specs.Forcing.{in_case}
use Rattle.subst_plan.proofs.forcing.push_all.Given as goal

abbrev pub invariant-loop-b : goal.invariant-loop-b
invariant-loop-b l = l.out.items ≡ l.initial.out.items ++ map (in_case l.case) (take l.b-index l.bytes)
