use Rattle.std.proofs.Common.{arith}
use Rattle.frame_store.specs.Entry.{entry_in}
use Rattle.frame_state.proofs.HeldStops.{held_stop}
use Rattle.frame_machine.proofs.AcceptTurns.{stop_accept_atomic, turn_accept_atomic}
use Rattle.frame_machine.proofs.accepts.accept_atomic.Goals as goal

pub returns-in-Err-clause-stop : goal.returns-in-Err-clause-stop
returns-in-Err-clause-stop g c =
    held_stop _ _ _ c.args.spot.now _ _ c.in-Err.ensures.last c.in-Err.stop c.in-Err.ensures.stop
    (λ h. stop_accept_atomic (g.S.Searchable.searched c.args.on.now) (g.met.S.Searchable.sound c.args.on.now)
    c.args.spot.now c.args.store.now.records c.args.registers.now c.requires.valid c.args.height
    c.requires.frame c.args.frame.now c.requires.at c.requires.kind (omega (arith, h, c.unit_limit.ensures)))

pub returns-clause-on : goal.returns-clause-on
unfolding entry_in
returns-clause-on g c =
    rw (c.in_default.ensures.spot, c.in_default.ensures.pushed)
    (turn_accept_atomic (g.S.Searchable.searched c.args.on.now) (g.met.S.Searchable.sound c.args.on.now)
    c.args.spot.now c.args.store.now.records c.args.registers.now c.requires.valid c.args.height
    c.requires.frame c.args.frame.now c.requires.at c.requires.kind
    (omega (arith, c.in_default.ensures.room, c.unit_limit.ensures)))
