use Rattle.std.proofs.Common.{subst, arith}
use Rattle.frame_store.specs.Entry.{entries}
use Rattle.pat_tree.specs.declared.nodes.Node.TheVariants as node
use Rattle.pat_tree.specs.declared.nodes.Verb.TheVariants as verb
use Rattle.frame_state.specs.Ground.{IsNode}
use Rattle.frame_verbs.proofs.VerbTurns.{none_of, turn_fail, turn_fail_named, stop_fail}
use Rattle.frame_verbs.proofs.verbs.pass_fail.Goals as goal

pub returns-in_default-clause-on : goal.returns-in_default-clause-on
returns-in_default-clause-on g c =
    turn_fail (g.S.Searchable.searched c.args.on.now) (g.met.S.Searchable.sound c.args.on.now) c.args.at
    c.args.spot.now (entries c.args.store.now.records) c.args.registers.now c.requires.valid
    (subst (λ o. IsNode (g.S.Searchable.searched c.args.on.now) c.args.at (node.VerbNode (verb.Fail o)))
    (none_of c.args.name c.in_default.not-Some) c.requires.node)

pub returns-then-spot-unit_limit-clause-stop : goal.returns-then-spot-unit_limit-clause-stop
returns-then-spot-unit_limit-clause-stop g c =
    stop_fail (g.S.Searchable.searched c.args.on.now) (g.met.S.Searchable.sound c.args.on.now) c.args.at
    c.args.spot.now (entries c.args.store.now.records) c.args.registers.now c.requires.valid _
    (subst (λ o. IsNode (g.S.Searchable.searched c.args.on.now) c.args.at (node.VerbNode (verb.Fail o)))
    c.in-Some.is c.requires.node) (omega (arith, c.if-spot-unit_limit.true, c.unit_limit.ensures))

pub returns-clause-on : goal.returns-clause-on
returns-clause-on g c =
    turn_fail_named (g.S.Searchable.searched c.args.on.now) (g.met.S.Searchable.sound c.args.on.now) c.args.at
    c.args.spot.now (entries c.args.store.now.records) c.args.registers.now c.requires.valid _
    (subst (λ o. IsNode (g.S.Searchable.searched c.args.on.now) c.args.at (node.VerbNode (verb.Fail o)))
    c.in-Some.is c.requires.node) (omega (arith, c.if-spot-unit_limit.false, c.unit_limit.ensures))
