use Rattle.std.proofs.Common.{◌≡◌, All, get_or, None, subst, sym}
use Rattle.pat_tree.specs.Rules.{kids_of}
use Rattle.node_flow.specs.Around.{told_by}
use Rattle.node_flow.specs.LookBranches.{look_branch_child}
use Rattle.node_flow.proofs.Branching.{no_branch_told, group_told, ahead_told}
use Rattle.node_flow.proofs.look_branches.enclose.Goals as goal

pub returns-else-is_none : goal.returns-else-is_none
returns-else-is_none c = λ k.
    let told = c.args.told.now in
    let untold : All (λ j. get_or told j None ≡ None) c.in-Group.branches =
    subst (λ n. All (λ j. get_or told j None ≡ None) (kids_of n)) c.in-Group.is c.requires.untold in
    subst (λ n. get_or told k None ≡ told_by look_branch_child told n c.args.outer k) (sym c.in-Group.is)
    (group_told told c.in-Group.number c.in-Group.branches c.args.outer c.if-is_none.ensures untold k)

pub returns-else-not-ahead : goal.returns-else-not-ahead
returns-else-not-ahead c = λ k.
    let told = c.args.told.now in
    let untold : All (λ j. get_or told j None ≡ None) c.in-Look.branches =
    subst (λ n. All (λ j. get_or told j None ≡ None) (kids_of n)) c.in-Look.is c.requires.untold in
    subst (λ n. get_or told k None ≡ told_by look_branch_child told n c.args.outer k) (sym c.in-Look.is)
    (ahead_told told c.in-Look.ahead c.in-Look.positive c.in-Look.atomic c.in-Look.branches c.args.outer
    c.if-not-ahead.false untold k)

pub returns-in_default : goal.returns-in_default
returns-in_default c =
    no_branch_told _ _ c.args.outer c.in_default.not-Seq c.in_default.not-Group c.in_default.not-Look
    c.in_default.not-Cond c.requires.untold
