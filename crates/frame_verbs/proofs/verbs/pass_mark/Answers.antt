use Rattle.std.proofs.Common.{sym, arith}
use Rattle.frame_store.specs.Entry.{entries, entry_of}
use Rattle.std.proofs.lemmas.List.{length-map}
use Rattle.frame_verbs.proofs.VerbTurns.{turn_mark, stop_mark, named_stop}
use Rattle.frame_verbs.proofs.verbs.pass_mark.Goals as goal

pub returns-in-Err-clause-stop : goal.returns-in-Err-clause-stop
returns-in-Err-clause-stop g c =
    named_stop _ _ _ _ _ _ c.in-Err.ensures.last c.in-Err.stop c.in-Err.ensures.stop
    (λ h. stop_mark (g.S.Searchable.searched c.args.on.now) (g.met.S.Searchable.sound c.args.on.now) c.args.at
    c.args.spot.now (entries c.args.store.now.records) c.args.registers.now c.requires.valid c.args.name
    c.requires.node (omega (arith, h, c.unit_limit.ensures)))

pub returns-clause-on : goal.returns-clause-on
returns-clause-on g c =
    rw (
      c.go_on.ensures,
      c.in_default.ensures.spot,
      c.in_default.ensures.pushed,
      sym (length-map c.args.store.now.records entry_of),
    )
    (turn_mark (g.S.Searchable.searched c.args.on.now) (g.met.S.Searchable.sound c.args.on.now) c.args.at
    c.args.spot.now (entries c.args.store.now.records) c.args.registers.now c.requires.valid c.args.name
    c.requires.node (omega (arith, c.in_default.ensures.room, c.unit_limit.ensures)))

pub go_on-requires : goal.go_on-requires
go_on-requires g c = c.requires.valid.running.0
