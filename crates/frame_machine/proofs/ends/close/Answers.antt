use Rattle.std.proofs.Common.{arith}
use Rattle.frame_state.proofs.HeldStops.{held_stop}
use Rattle.frame_parts.proofs.EndTurns.{open_sound, stop_open, turn_open}
use Rattle.frame_machine.proofs.ends.close.Goals as goal

pub number_of-number-requires-clause-inside : goal.number_of-number-requires-clause-inside
number_of-number-requires-clause-inside g c =
    (open_sound (g.S.Searchable.searched c.args.on.now) (g.met.S.Searchable.sound c.args.on.now) c.args.spot.now
    c.args.store.now.records c.args.registers.now c.requires.valid c.args.height c.requires.frame c.args.frame.now
    c.requires.at c.requires.kind).0

pub number_of-number-requires-clause-capture : goal.number_of-number-requires-clause-capture
number_of-number-requires-clause-capture g c =
    (open_sound (g.S.Searchable.searched c.args.on.now) (g.met.S.Searchable.sound c.args.on.now) c.args.spot.now
    c.args.store.now.records c.args.registers.now c.requires.valid c.args.height c.requires.frame c.args.frame.now
    c.requires.at c.requires.kind).1

pub returns-in-Err-clause-stop : goal.returns-in-Err-clause-stop
returns-in-Err-clause-stop g c =
    held_stop _ _ _ c.args.spot.now _ _ c.in-Err.ensures.last c.in-Err.stop c.in-Err.ensures.stop
    (λ h. stop_open (g.S.Searchable.searched c.args.on.now) (g.met.S.Searchable.sound c.args.on.now) c.args.spot.now
    c.args.store.now.records c.args.registers.now c.requires.valid c.args.height c.requires.frame
    c.args.frame.now c.requires.at c.requires.kind c.number_of-number.result c.number_of-number.ensures.is
    (omega (arith, h, c.unit_limit.ensures)))

pub returns-clause-on : goal.returns-clause-on
returns-clause-on g c =
    rw (c.go_on.ensures, c.in_default.ensures.set, c.in_default.ensures.spot, c.in_default.ensures.pushed)
    (turn_open (g.S.Searchable.searched c.args.on.now) (g.met.S.Searchable.sound c.args.on.now) c.args.spot.now
    c.args.store.now.records c.args.registers.now c.requires.valid c.args.height c.requires.frame
    c.args.frame.now c.requires.at c.requires.kind c.number_of-number.result c.number_of-number.ensures.is
    c.number_of-number.ensures.some c.number_of-number.ensures.few
    (omega (arith, c.in_default.ensures.room, c.unit_limit.ensures)))

pub go_on-requires : goal.go_on-requires
go_on-requires g c = (open_sound (g.S.Searchable.searched c.args.on.now) (g.met.S.Searchable.sound c.args.on.now)
    c.args.spot.now c.args.store.now.records c.args.registers.now c.requires.valid c.args.height c.requires.frame
    c.args.frame.now c.requires.at c.requires.kind).0
