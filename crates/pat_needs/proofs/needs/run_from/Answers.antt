use Rattle.std.proofs.Common.{subst}
use Rattle.pat_needs.specs.NeedTables.{IsNeed, IsWanted}
use Rattle.pat_needs.proofs.needs.run_from.Goals as goal

pub returns-in-Some : goal.returns-in-Some
returns-in-Some c may utf anywhere t ts h k =
    let wanted : IsWanted may utf anywhere t c.in-Some.wanted = subst (IsNeed may utf anywhere t) c.in-Some.is h in
    c.before-in-Some.ensures may utf t ts (wanted.item c.if-wanted.true) wanted.short k
