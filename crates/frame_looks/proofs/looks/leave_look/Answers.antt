use Rattle.std.proofs.Common.{arith}
use Rattle.frame_store.specs.Entry.{entry_in}
use Rattle.frame_state.proofs.HeldStops.{held_stop}
use Rattle.frame_looks.proofs.LookTurns.{look_inside, stop_look_left, turn_look_left}
use Rattle.frame_looks.proofs.looks.leave_look.Goals as goal

pub returns-in-Err-clause-stop : goal.returns-in-Err-clause-stop
returns-in-Err-clause-stop g c =
    held_stop _ _ _ c.args.spot.now _ _ c.in-Err.ensures.last c.in-Err.stop c.in-Err.ensures.stop
    (λ h. stop_look_left (g.S.Searchable.searched c.args.on.now) (g.met.S.Searchable.sound c.args.on.now)
    c.args.spot.now c.args.store.now.records c.args.registers.now c.requires.valid c.args.height
    c.requires.frame c.args.frame.now c.requires.at c.requires.kind (omega (arith, h, c.unit_limit.ensures)))

pub go_on-requires : goal.go_on-requires
go_on-requires g c = look_inside (g.S.Searchable.searched c.args.on.now) (g.met.S.Searchable.sound c.args.on.now)
    c.args.spot.now c.args.store.now.records c.args.registers.now c.requires.valid c.args.height c.requires.frame
    c.args.frame.now c.requires.at c.requires.kind

pub returns-clause-on : goal.returns-clause-on
unfolding entry_in
returns-clause-on g c =
    rw (c.go_on.ensures, c.go_back.ensures, c.in_default.ensures.spot, c.in_default.ensures.pushed)
    (turn_look_left (g.S.Searchable.searched c.args.on.now) (g.met.S.Searchable.sound c.args.on.now) c.args.spot.now
    c.args.store.now.records c.args.registers.now c.requires.valid c.args.height c.requires.frame
    c.args.frame.now c.requires.at c.requires.kind
    (omega (arith, c.in_default.ensures.room, c.unit_limit.ensures)))
