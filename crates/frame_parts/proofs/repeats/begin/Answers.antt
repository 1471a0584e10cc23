use Rattle.std.proofs.Common.{arith, sym}
use Rattle.frame_store.specs.Entry.{entries}
use Rattle.frame_state.proofs.HeldStops.{held_stop, tells_stop}
use Rattle.std.proofs.lemmas.List.{length-map}
use Rattle.frame_store.specs.Entry.{entry_of}
use Rattle.frame_parts.proofs.RepeatTurns.{stop_begin, stop_begin_units, turn_begin}
use Rattle.frame_parts.proofs.repeats.begin.Goals as goal

pub returns-then-spot-eq0-clause-stop : goal.returns-then-spot-eq0-clause-stop
returns-then-spot-eq0-clause-stop g c = tells_stop c.args.spot.now _ _
    (stop_begin (g.S.Searchable.searched c.args.on.now) (g.met.S.Searchable.sound c.args.on.now) c.args.at
    c.args.count c.args.spot.now (entries c.args.store.now.records) c.args.registers.now
    c.turns_of-turns.result.body c.turns_of-turns.result.min c.turns_of-turns.result.max
    c.turns_of-turns.result.lazy c.turns_of-turns.ensures.is c.args.exits c.requires.valid c.if-spot-eq0.true)

pub returns-in-Err-clause-stop : goal.returns-in-Err-clause-stop
returns-in-Err-clause-stop g c =
    held_stop _ _ _ c.args.spot.now _ _ c.in-Err.ensures.last c.in-Err.stop c.in-Err.ensures.stop
    (λ h. stop_begin_units (g.S.Searchable.searched c.args.on.now) (g.met.S.Searchable.sound c.args.on.now) c.args.at
    c.args.count c.args.spot.now (entries c.args.store.now.records) c.args.registers.now
    c.turns_of-turns.result.body c.turns_of-turns.result.min c.turns_of-turns.result.max
    c.turns_of-turns.result.lazy c.turns_of-turns.ensures.is c.args.exits c.requires.valid
    (omega (arith, c.if-spot-eq0.false)) (omega (arith, h, c.unit_limit.ensures)))

pub returns-clause-on : goal.returns-clause-on
returns-clause-on g c =
    rw (
      c.len.ensures,
      c.in_default.ensures.spot,
      c.in_default.ensures.pushed,
      c.turn_record-record.ensures,
      sym (length-map c.args.store.now.records entry_of),
    )
    (turn_begin (g.S.Searchable.searched c.args.on.now) (g.met.S.Searchable.sound c.args.on.now) c.args.at
    c.args.count c.args.spot.now (entries c.args.store.now.records) c.args.registers.now
    c.turns_of-turns.result.body c.turns_of-turns.result.min c.turns_of-turns.result.max
    c.turns_of-turns.result.lazy c.turns_of-turns.ensures.is c.args.exits c.requires.valid
    c.turns_of-turns.ensures.body (c.turns_of-turns.ensures.alone, c.turns_of-turns.ensures.unlooked)
    c.turns_of-turns.ensures.framed
    (omega (arith, c.if-spot-eq0.false)) (omega (arith, c.in_default.ensures.room, c.unit_limit.ensures)))
