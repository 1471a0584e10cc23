use Rattle.std.proofs.Common.{IfErr, length, sym, ap, subst, arith}
use Rattle.std.proofs.lemmas.List.{length-map}
use Rattle.frame_store.specs.Entry.{entries, entry_of}
use Rattle.frame_state.specs.Stops.{IsStop, Told, told}
use Rattle.frame_state.specs.Calls.{IsCalled}
use Rattle.frame_state.proofs.HeldStops.{held_stop, tells_stop}
use Rattle.frame_state.proofs.MostOf.{ok_more}
use Rattle.frame_state.proofs.CallFrames.{nested}
use Rattle.frame_looks.proofs.CallTurns.{stop_call_steps, stop_call_loop, stop_call_units, call_open, turn_call_none}
use Rattle.frame_looks.proofs.CallTurns.{turn_called, stop_called}
use Rattle.frame_looks.proofs.calls.enter_call.Goals as goal

pub returns-then-spot-eq0-clause-stop : goal.returns-then-spot-eq0-clause-stop
returns-then-spot-eq0-clause-stop g c = tells_stop c.args.spot.now _ _
    (stop_call_steps (g.S.Searchable.searched c.args.on.now) (g.met.S.Searchable.sound c.args.on.now) c.args.at
    c.args.group c.args.spot.now (entries c.args.store.now.records) c.args.registers.now c.requires.valid
    c.requires.node c.if-spot-eq0.true)

pub is_active-requires-clause-nested : goal.is_active-requires-clause-nested
is_active-requires-clause-nested g c = nested (g.S.Searchable.searched c.args.on.now) c.args.spot.now.left
    (length c.args.registers.now) (entries c.args.store.now.records) c.requires.valid.records

pub returns-then-is_active-clause-stop : goal.returns-then-is_active-clause-stop
returns-then-is_active-clause-stop g c = tells_stop c.args.spot.now _ _
    (stop_call_loop (g.S.Searchable.searched c.args.on.now) (g.met.S.Searchable.sound c.args.on.now) c.args.at
    c.args.group c.args.spot.now (entries c.args.store.now.records) c.args.registers.now c.requires.valid
    c.requires.node (omega (arith, c.if-spot-eq0.false)) (sym c.if-is_active.ensures))

pub last_place-last-requires-clause-nested : goal.last_place-last-requires-clause-nested
last_place-last-requires-clause-nested g c = nested (g.S.Searchable.searched c.args.on.now) c.args.spot.now.left
    (length c.args.registers.now) (entries c.args.store.now.records) c.requires.valid.records

pub returns-in-Err-clause-stop : goal.returns-in-Err-clause-stop
returns-in-Err-clause-stop g c =
    held_stop _ _ _ c.args.spot.now _ _ c.in-Err.ensures.last c.in-Err.stop c.in-Err.ensures.stop
    (λ h. stop_call_units (g.S.Searchable.searched c.args.on.now) (g.met.S.Searchable.sound c.args.on.now) c.args.at
    c.args.group c.args.spot.now (entries c.args.store.now.records) c.args.registers.now c.requires.valid
    c.requires.node (omega (arith, c.if-spot-eq0.false)) (sym c.if-is_active.ensures)
    (omega (arith, h, c.unit_limit.ensures)))

pub run_called-requires-clause-calling : goal.run_called-requires-clause-calling
run_called-requires-clause-calling g c =
    rw (c.in_default.ensures.spot, c.in_default.ensures.pushed, sym (length-map c.args.store.now.records entry_of))
    (call_open (g.S.Searchable.searched c.args.on.now) (g.met.S.Searchable.sound c.args.on.now) c.args.at c.args.group
    c.args.spot.now (entries c.args.store.now.records) c.args.registers.now c.requires.valid c.requires.node
    (omega (arith, c.if-spot-eq0.false)) (sym c.if-is_active.ensures) c.last_place-last.result
    c.last_place-last.ensures.here c.last_place-last.ensures.around
    (omega (arith, c.in_default.ensures.room, c.unit_limit.ensures)))

pub run_called-requires-clause-callee : goal.run_called-requires-clause-callee
run_called-requires-clause-callee g c =
    (subst (IsCalled (g.S.Searchable.searched c.args.on.now) c.args.group) c.in-Some.is c.group.ensures).1

pub returns-in-None-clause-on : goal.returns-in-None-clause-on
returns-in-None-clause-on g c =
    rw (c.in_default.ensures.spot, c.in_default.ensures.pushed, sym (length-map c.args.store.now.records entry_of))
    (turn_call_none (g.S.Searchable.searched c.args.on.now) (g.met.S.Searchable.sound c.args.on.now) c.args.at
    c.args.group c.args.spot.now (entries c.args.store.now.records) c.args.registers.now c.requires.valid
    c.requires.node (omega (arith, c.if-spot-eq0.false)) (sym c.if-is_active.ensures) c.last_place-last.result
    c.last_place-last.ensures.here c.last_place-last.ensures.around
    (omega (arith, c.in_default.ensures.room, c.unit_limit.ensures))
    (subst (IsCalled (g.S.Searchable.searched c.args.on.now) c.args.group) c.in-None.is c.group.ensures))

pub returns-in-Some-clause-on : goal.returns-in-Some-clause-on
returns-in-Some-clause-on g c =
    let called = subst (IsCalled (g.S.Searchable.searched c.args.on.now) c.args.group) c.in-Some.is c.group.ensures in
    ok_more _ _ c.run_called.result
    (λ x a. turn_called (g.S.Searchable.searched c.args.on.now) (g.met.S.Searchable.sound c.args.on.now) c.args.at
    c.args.group c.args.spot.now (entries c.args.store.now.records) c.args.registers.now c.requires.valid
    c.requires.node (omega (arith, c.if-spot-eq0.false)) (sym c.if-is_active.ensures) c.last_place-last.result
    c.last_place-last.ensures.here c.last_place-last.ensures.around
    (omega (arith, c.in_default.ensures.room, c.unit_limit.ensures)) c.in-Some.part called.0 called.1 _ a)
    (rw (c.in_default.ensures.spot, c.in_default.ensures.pushed, sym (length-map c.args.store.now.records entry_of))
    at c.run_called.ensures.on)

pub returns-in-Some-clause-stop : goal.returns-in-Some-clause-stop
returns-in-Some-clause-stop g c =
    let called = subst (IsCalled (g.S.Searchable.searched c.args.on.now) c.args.group) c.in-Some.is c.group.ensures in
    subst (λ (t : Told). IfErr c.run_called.result (λ stop. IsStop stop c.run_called.new.spot c.args.registers.now t))
    (sym (ap (told c.args.spot.now.last) (stop_called (g.S.Searchable.searched c.args.on.now)
    (g.met.S.Searchable.sound c.args.on.now) c.args.at c.args.group c.args.spot.now
    (entries c.args.store.now.records) c.args.registers.now c.requires.valid c.requires.node
    (omega (arith, c.if-spot-eq0.false)) (sym c.if-is_active.ensures) c.last_place-last.result
    c.last_place-last.ensures.here c.last_place-last.ensures.around
    (omega (arith, c.in_default.ensures.room, c.unit_limit.ensures)) c.in-Some.part called.0 called.1)))
    (rw (c.in_default.ensures.spot, c.in_default.ensures.pushed, sym (length-map c.args.store.now.records entry_of))
    at c.run_called.ensures.stop)
