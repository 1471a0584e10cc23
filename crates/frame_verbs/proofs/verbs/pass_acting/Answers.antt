use Rattle.std.proofs.Common.{◌∙◌, arith}
use Rattle.frame_store.specs.Entry.{entries}
use Rattle.frame_verbs.proofs.VerbTurns.{turn_of, stop_of, named_stop}
use Rattle.frame_verbs.proofs.verbs.pass_acting.Goals as goal

pub returns-in-Err-clause-stop : goal.returns-in-Err-clause-stop
returns-in-Err-clause-stop g c =
    named_stop _ _ _ _ _ _ (c.in-Err.ensures.last ∙ c.meet.ensures.last) c.in-Err.stop c.in-Err.ensures.stop
    (λ h. stop_of (g.S.Searchable.searched c.args.on.now) (g.met.S.Searchable.sound c.args.on.now) c.args.at
    c.args.spot.now (entries c.args.store.now.records) c.args.registers.now c.requires.valid c.args.kind
    c.args.name c.args.next c.requires.node (omega (arith, h, c.meet.ensures.units, c.unit_limit.ensures)))

pub returns-clause-on : goal.returns-clause-on
returns-clause-on g c =
    rw (
      c.go_on.ensures,
      c.in_default.ensures.spot,
      c.in_default.ensures.pushed,
      c.record-event.ensures,
      c.meet.ensures.met,
    )
    (turn_of (g.S.Searchable.searched c.args.on.now) (g.met.S.Searchable.sound c.args.on.now) c.args.at
    c.args.spot.now (entries c.args.store.now.records) c.args.registers.now c.requires.valid c.args.kind
    c.args.name c.args.next c.requires.node
    (omega (arith, c.in_default.ensures.room, c.meet.ensures.units, c.unit_limit.ensures)))

pub go_on-requires : goal.go_on-requires
go_on-requires g c = c.requires.valid.running.0
