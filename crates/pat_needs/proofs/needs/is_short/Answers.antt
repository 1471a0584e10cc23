use Rattle.std.proofs.Common.{Bool, true, subst, sym}
use Rattle.pat_needs.specs.Needs.{may_take, IsShort}
use Rattle.pat_needs.proofs.NeedLemmas.{short_told}
use Rattle.pat_needs.proofs.needs.is_short.Goals as goal

pub returns-in-Some : goal.returns-in-Some
returns-in-Some c classes short =
    subst (λ (u : Bool). IsShort (may_take u classes) u c.args.item.now) (sym c.if-not-utf.false)
    (short_told (may_take true classes) true c.args.item.now c.utf_need.result c.in-Some.taken c.in-Some.is
    (c.utf_need.ensures classes) short)
