use Rattle.std.proofs.Common.{arith}
use Rattle.std.proofs.lemmas.List.{length-map}
use Rattle.frame_store.specs.Entry.{entries, entry_of}
use Rattle.frame_verbs.proofs.SkipTurns.{skip_marked, skip_heard, skip_recorded, turn_skip_to, stop_skip_to}
use Rattle.frame_verbs.proofs.VerbTurns.{named_stop}
use Rattle.frame_verbs.proofs.skips.pass_skip_to.Goals as goal

pub last_passed-found-requires-clause-heard : goal.last_passed-found-requires-clause-heard
last_passed-found-requires-clause-heard g c = skip_heard (g.S.Searchable.searched c.args.on.now)
    (g.met.S.Searchable.sound c.args.on.now) c.args.at c.args.spot.now (entries c.args.store.now.records)
    c.args.registers.now c.requires.valid

pub last_passed-found-requires-clause-within : goal.last_passed-found-requires-clause-within
last_passed-found-requires-clause-within g c =
    let low = skip_marked (g.S.Searchable.searched c.args.on.now) (g.met.S.Searchable.sound c.args.on.now) c.args.at
    c.args.spot.now (entries c.args.store.now.records) c.args.registers.now c.requires.valid in
    omega (arith, low, length-map c.args.store.now.records entry_of)

pub returns-in-Err-clause-stop : goal.returns-in-Err-clause-stop
returns-in-Err-clause-stop g c =
    named_stop _ _ _ _ _ _ c.in-Err.ensures.last c.in-Err.stop c.in-Err.ensures.stop
    (λ h. stop_skip_to (g.S.Searchable.searched c.args.on.now) (g.met.S.Searchable.sound c.args.on.now) c.args.at
    c.args.spot.now (entries c.args.store.now.records) c.args.registers.now c.requires.valid c.args.name
    c.requires.node (omega (arith, h, c.unit_limit.ensures)))

pub returns-clause-on : goal.returns-clause-on
returns-clause-on g c =
    rw (
      c.go_on.ensures,
      c.in_default.ensures.spot,
      c.in_default.ensures.pushed,
      c.skip_record-event.ensures,
      skip_recorded c.args.spot.now c.args.at c.last_passed-found.result,
    )
    (turn_skip_to (g.S.Searchable.searched c.args.on.now) (g.met.S.Searchable.sound c.args.on.now) c.args.at
    c.args.spot.now (entries c.args.store.now.records) c.args.registers.now c.requires.valid c.args.name
    c.requires.node _ c.last_passed-found.ensures
    (omega (arith, c.in_default.ensures.room, c.unit_limit.ensures)))

pub go_on-requires : goal.go_on-requires
go_on-requires g c = c.requires.valid.running.0
