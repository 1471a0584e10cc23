use Rattle.std.proofs.Common.{◌<◌, All, None, refl, subst}
use Rattle.pat_tree.specs.declared.nodes.Node.TheVariants as node
use Rattle.pat_tree.specs.declared.nodes.Verb.TheVariants as verb
use Rattle.pat_tree.specs.Rules.{name_in}
use Rattle.frame_state.specs.Ground.{IsNode}
use Rattle.frame_verbs.proofs.VerbTurns.{name_few}
use Rattle.frame_verbs.proofs.verbs.enter_verb.Goals as goal

pub pass_mark-requires-clause-node : goal.pass_mark-requires-clause-node
pass_mark-requires-clause-node g c =
    subst (λ v. IsNode (g.S.Searchable.searched c.args.on.now) c.args.at (node.VerbNode v)) c.in-Mark.is
    c.requires.node

pub pass_accept-requires-clause-node : goal.pass_accept-requires-clause-node
pass_accept-requires-clause-node g c =
    subst (λ v. IsNode (g.S.Searchable.searched c.args.on.now) c.args.at (node.VerbNode v)) c.in-Accept.is
    c.requires.node

pub pass_fail-requires-clause-node : goal.pass_fail-requires-clause-node
pass_fail-requires-clause-node g c =
    subst (λ v. IsNode (g.S.Searchable.searched c.args.on.now) c.args.at (node.VerbNode v)) c.in-Fail.is
    c.requires.node

pub pass_mark-requires-clause-few : goal.pass_mark-requires-clause-few
pass_mark-requires-clause-few g c =
    name_few c.in-Mark.name (subst (λ v. All (λ k. k < 4294967295) (name_in v)) c.in-Mark.is c.requires.node.names)

pub pass_accept-requires-clause-few : goal.pass_accept-requires-clause-few
pass_accept-requires-clause-few g c =
    name_few c.in-Accept.name (subst (λ v. All (λ k. k < 4294967295) (name_in v)) c.in-Accept.is c.requires.node.names)

pub pass_fail-requires-clause-few : goal.pass_fail-requires-clause-few
pass_fail-requires-clause-few g c =
    name_few c.in-Fail.name (subst (λ v. All (λ k. k < 4294967295) (name_in v)) c.in-Fail.is c.requires.node.names)

pub pass_acting-requires-clause-node : goal.pass_acting-requires-clause-node
pass_acting-requires-clause-node g c = record {
  of = verb.Commit c.in-Commit.name;
  is = subst (λ v. IsNode (g.S.Searchable.searched c.args.on.now) c.args.at (node.VerbNode v)) c.in-Commit.is
      c.requires.node;
  leaves = refl;
}

pub pass_acting-requires-clause-few : goal.pass_acting-requires-clause-few
pass_acting-requires-clause-few g c =
    name_few c.in-Commit.name (subst (λ v. All (λ k. k < 4294967295) (name_in v)) c.in-Commit.is c.requires.node.names)

pub pass_acting-requires-in-Prune-clause-node : goal.pass_acting-requires-in-Prune-clause-node
pass_acting-requires-in-Prune-clause-node g c = record {
  of = verb.Prune c.in-Prune.name;
  is = subst (λ v. IsNode (g.S.Searchable.searched c.args.on.now) c.args.at (node.VerbNode v)) c.in-Prune.is
      c.requires.node;
  leaves = refl;
}

pub pass_acting-requires-in-Prune-clause-few : goal.pass_acting-requires-in-Prune-clause-few
pass_acting-requires-in-Prune-clause-few g c =
    name_few c.in-Prune.name (subst (λ v. All (λ k. k < 4294967295) (name_in v)) c.in-Prune.is c.requires.node.names)

pub pass_acting-requires-in-Then-clause-node : goal.pass_acting-requires-in-Then-clause-node
pass_acting-requires-in-Then-clause-node g c = record {
  of = verb.Then c.in-Then.name;
  is = subst (λ v. IsNode (g.S.Searchable.searched c.args.on.now) c.args.at (node.VerbNode v)) c.in-Then.is
      c.requires.node;
  leaves = refl;
}

pub pass_acting-requires-in-Then-clause-few : goal.pass_acting-requires-in-Then-clause-few
pass_acting-requires-in-Then-clause-few g c =
    name_few c.in-Then.name (subst (λ v. All (λ k. k < 4294967295) (name_in v)) c.in-Then.is c.requires.node.names)

pub pass_acting-requires-in-None-clause-node : goal.pass_acting-requires-in-None-clause-node
pass_acting-requires-in-None-clause-node g c = record {
  of = verb.Skip None;
  is = subst (λ o. IsNode (g.S.Searchable.searched c.args.on.now) c.args.at (node.VerbNode (verb.Skip o))) c.in-None.is
      (subst (λ v. IsNode (g.S.Searchable.searched c.args.on.now) c.args.at (node.VerbNode v)) c.in-Skip.is
      c.requires.node);
  leaves = refl;
}

pub pass_skip_to-requires-clause-node : goal.pass_skip_to-requires-clause-node
pass_skip_to-requires-clause-node g c =
    subst (λ o. IsNode (g.S.Searchable.searched c.args.on.now) c.args.at (node.VerbNode (verb.Skip o))) c.in-Some.is
    (subst (λ v. IsNode (g.S.Searchable.searched c.args.on.now) c.args.at (node.VerbNode v)) c.in-Skip.is
    c.requires.node)
