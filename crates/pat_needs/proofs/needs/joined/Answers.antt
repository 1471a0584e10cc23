use Rattle.std.proofs.Common.{refl, subst}
use Rattle.pat_needs.specs.Texts.{sets_of}
use Rattle.pat_needs.specs.NeedTables.{IsNeed, IsWanted, AreAllNeeds}
use Rattle.pat_needs.proofs.NeedLemmas.{both_need}
use Rattle.pat_needs.proofs.needs.joined.Goals as goal

pub returns : goal.returns
returns c may utf anywhere t ts h k =
    let one : IsWanted may utf anywhere t c.in-Some.one = subst (IsNeed may utf anywhere t) c.in-Some.is h in
    let others = subst (AreAllNeeds may utf anywhere ts) c.in_ok-others.was k in (
      refl,
      both_need may utf anywhere t ts (sets_of c.in_ok-others.others.text) (sets_of c.in-Some.one.text)
          (sets_of c.either.result) c.either.ensures one.needs others.1,
    )
