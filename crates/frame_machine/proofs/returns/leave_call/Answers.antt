use Rattle.std.proofs.Common.{◌∙◌, arith, sym}
use Rattle.frame_machine.proofs.Restores.{return_stop}
use Rattle.frame_machine.proofs.ReturnTurns.{call_inside, stop_left, turn_given, bank_height, bank_slots, bank_length}
use Rattle.frame_machine.proofs.returns.leave_call.Goals as goal

pub captures_at-requires-clause-within : goal.captures_at-requires-clause-within
captures_at-requires-clause-within g c = bank_height (g.S.Searchable.searched c.args.on.now)
    (g.met.S.Searchable.sound c.args.on.now) c.args.spot.now c.args.store.now.records c.args.registers.now
    c.requires.valid c.args.height c.requires.frame c.args.frame.now c.requires.at c.requires.kind

pub captures_at-requires-clause-slots : goal.captures_at-requires-clause-slots
captures_at-requires-clause-slots g c = bank_slots (g.S.Searchable.searched c.args.on.now)
    (g.met.S.Searchable.sound c.args.on.now) c.args.spot.now c.args.store.now.records c.args.registers.now
    c.requires.valid c.args.height c.requires.frame c.args.frame.now c.requires.at c.requires.kind

pub restore-requires-clause-same : goal.restore-requires-clause-same
restore-requires-clause-same g c = bank_length (g.S.Searchable.searched c.args.on.now)
    (g.met.S.Searchable.sound c.args.on.now) c.args.spot.now c.args.store.now.records c.args.registers.now
    c.requires.valid c.args.height c.requires.frame c.args.frame.now c.requires.at c.requires.kind _
    c.captures_at.ensures.taken

pub returns-in-Err-clause-stop : goal.returns-in-Err-clause-stop
returns-in-Err-clause-stop g c =
    return_stop _ _ _ c.args.spot.now _ _ c.in-Err.ensures.last c.in-Err.stop c.in-Err.ensures.stop
    (λ h. stop_left (g.S.Searchable.searched c.args.on.now) (g.met.S.Searchable.sound c.args.on.now) c.args.spot.now
    c.args.store.now.records c.args.registers.now c.requires.valid c.args.height c.requires.frame
    c.args.frame.now c.requires.at c.requires.kind _ c.captures_at.ensures.taken
    (omega (arith, h, c.unit_limit.ensures)))

pub go_on-requires : goal.go_on-requires
go_on-requires g c = call_inside (g.S.Searchable.searched c.args.on.now) (g.met.S.Searchable.sound c.args.on.now)
    c.args.spot.now c.args.store.now.records c.args.registers.now c.requires.valid c.args.height c.requires.frame
    c.args.frame.now c.requires.at c.requires.kind

pub returns-clause-on : goal.returns-clause-on
returns-clause-on g c =
    rw (c.go_on.ensures, c.in_default.ensures.spot)
    (turn_given (g.S.Searchable.searched c.args.on.now) (g.met.S.Searchable.sound c.args.on.now) c.args.spot.now
    c.args.store.now.records c.args.registers.now c.requires.valid c.args.height c.requires.frame
    c.args.frame.now c.requires.at c.requires.kind _ c.captures_at.ensures.taken _ _
    (rw c.captures_at.ensures.kept at c.in_default.ensures.restored)
    (rw (c.in_default.ensures.spot, c.unit_limit.ensures) at c.in_default.ensures.few))

pub captures_at-requires-clause-same : goal.captures_at-requires-clause-same
captures_at-requires-clause-same g c = c.requires.bank ∙ sym c.requires.valid.slots

pub restore-requires-clause-numbered : goal.restore-requires-clause-numbered
restore-requires-clause-numbered g c =
    let same = bank_length (g.S.Searchable.searched c.args.on.now) (g.met.S.Searchable.sound c.args.on.now)
    c.args.spot.now c.args.store.now.records c.args.registers.now c.requires.valid c.args.height c.requires.frame
    c.args.frame.now c.requires.at c.requires.kind _ c.captures_at.ensures.taken in
    omega (arith, same, c.requires.valid.slots, (g.met.S.Searchable.sound c.args.on.now).registers)
