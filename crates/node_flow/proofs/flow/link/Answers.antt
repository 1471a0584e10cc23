use Rattle.std.proofs.Common.{◌≡◌, All, get_or, None, subst, sym}
use Rattle.pat_tree.specs.Rules.{kids_of}
use Rattle.node_flow.specs.Followers.{next_by}
use Rattle.node_flow.proofs.Told.{others_stay, group_stays}
use Rattle.node_flow.proofs.flow.link.Goals as goal

pub returns-else-is_none : goal.returns-else-is_none
returns-else-is_none c = λ rest is k.
    let told = c.args.next.now in
    let untold : All (λ j. get_or told j None ≡ None) c.in-Group.branches =
    subst (λ n. All (λ j. get_or told j None ≡ None) (kids_of n)) c.in-Group.is c.requires.untold in
    subst (λ n. get_or told k None ≡ next_by told n rest k) (sym c.in-Group.is)
    (group_stays told c.in-Group.number c.in-Group.branches rest c.if-is_none.ensures untold k)

pub returns-in_default : goal.returns-in_default
returns-in_default c = λ rest is. others_stay _ _ rest c.in_default.not-Seq c.in_default.not-Group
    c.in_default.not-Cond c.requires.untold
