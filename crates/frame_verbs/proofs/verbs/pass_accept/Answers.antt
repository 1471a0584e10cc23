use Rattle.std.proofs.Common.{sym, subst, arith}
use Rattle.std.proofs.lemmas.List.{length-map}
use Rattle.frame_store.specs.Entry.{entries, entry_of}
use Rattle.pat_tree.specs.declared.nodes.Node.TheVariants as node
use Rattle.pat_tree.specs.declared.nodes.Verb.TheVariants as verb
use Rattle.frame_state.specs.Ground.{IsNode}
use Rattle.frame_verbs.proofs.VerbTurns.{none_of, turn_accept, accept_named, stop_accept_of, named_stop}
use Rattle.frame_verbs.proofs.verbs.pass_accept.Goals as goal

pub returns-in_default-clause-on : goal.returns-in_default-clause-on
returns-in_default-clause-on g c =
    turn_accept (g.S.Searchable.searched c.args.on.now) (g.met.S.Searchable.sound c.args.on.now) c.args.at
    c.args.spot.now (entries c.args.store.now.records) c.args.registers.now c.requires.valid
    (subst (λ o. IsNode (g.S.Searchable.searched c.args.on.now) c.args.at (node.VerbNode (verb.Accept o)))
    (none_of c.args.name c.in_default.not-Some) c.requires.node)

pub returns-in-Err-clause-stop : goal.returns-in-Err-clause-stop
returns-in-Err-clause-stop g c =
    named_stop _ _ _ _ _ _ c.in-Err.ensures.last c.in-Err.stop c.in-Err.ensures.stop
    (λ h. stop_accept_of (g.S.Searchable.searched c.args.on.now) (g.met.S.Searchable.sound c.args.on.now) c.args.at
    c.args.spot.now (entries c.args.store.now.records) c.args.registers.now c.requires.valid c.args.name
    c.requires.node _ c.in-Some.is (omega (arith, h, c.unit_limit.ensures)))

pub returns-clause-on : goal.returns-clause-on
returns-clause-on g c =
    rw (
      c.in_default-pass_name.ensures.spot,
      c.in_default-pass_name.ensures.pushed,
      sym (length-map c.args.store.now.records entry_of),
    )
    (accept_named (g.S.Searchable.searched c.args.on.now) (g.met.S.Searchable.sound c.args.on.now) c.args.at
    c.args.spot.now (entries c.args.store.now.records) c.args.registers.now c.requires.valid c.args.name
    c.requires.node _ c.in-Some.is (omega (arith, c.in_default-pass_name.ensures.room, c.unit_limit.ensures)))
