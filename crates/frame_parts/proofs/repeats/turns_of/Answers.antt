use Rattle.std.proofs.Common.{◌≡◌, ℕ, [], All, Option, None, subst}
use Rattle.std.proofs.lemmas.List.Elements.{All-head}
use Rattle.pat_tree.specs.Rules.{kids_of}
use Rattle.node_flow.specs.Branches.{branch_child}
use Rattle.node_flow.specs.LookBranches.{look_branch_child}
use Rattle.frame_state.specs.Ground.{IsPart}
use Rattle.frame_state.proofs.KidParts.{kid_parts}
use Rattle.frame_parts.proofs.repeats.turns_of.Goals as goal

pub returns-clause-body : goal.returns-clause-body
returns-clause-body g c =
    let ground = g.S.Searchable.searched c.args.on.now in
    let node = c.node.result.now in
    All-head (IsPart ground) c.in-Repeat.body []
    (subst (λ m. All (IsPart ground) (kids_of m)) c.in-Repeat.is
    (kid_parts ground c.args.part node c.requires.inside c.node.ensures))

pub returns-clause-framed : goal.returns-clause-framed
returns-clause-framed g c =
    let ground = g.S.Searchable.searched c.args.on.now in
    let outer : Option ℕ = ground.branch c.args.part in
    All-head (λ k. ground.branch k ≡ None) c.in-Repeat.body []
    (subst (λ m. All (λ k. ground.branch k ≡ branch_child m outer k) (kids_of m)) c.in-Repeat.is
    c.node.ensures.branched)

pub returns-clause-unlooked : goal.returns-clause-unlooked
returns-clause-unlooked g c =
    let ground = g.S.Searchable.searched c.args.on.now in
    let outer : Option ℕ = ground.look_branch c.args.part in
    All-head (λ k. ground.look_branch k ≡ None) c.in-Repeat.body []
    (subst (λ m. All (λ k. ground.look_branch k ≡ look_branch_child m outer k) (kids_of m)) c.in-Repeat.is
    c.node.ensures.looked)
