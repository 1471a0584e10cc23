use Rattle.std.proofs.Common.{arith}
use Rattle.frame_store.specs.Entry.{entry_in}
use Rattle.frame_state.proofs.HeldStops.{held_stop}
use Rattle.frame_looks.proofs.CondTurns.{test_sound, stop_test_left, turn_test_left}
use Rattle.frame_looks.proofs.conds.leave_test.Goals as goal

pub returns-in-Err-clause-stop : goal.returns-in-Err-clause-stop
returns-in-Err-clause-stop g c =
    held_stop _ _ _ c.args.spot.now _ _ c.in-Err.ensures.last c.in-Err.stop c.in-Err.ensures.stop
    (λ h. stop_test_left (g.S.Searchable.searched c.args.on.now) (g.met.S.Searchable.sound c.args.on.now)
    c.args.spot.now c.args.store.now.records c.args.registers.now c.requires.valid c.args.height
    c.requires.frame c.args.frame.now c.requires.at c.args.holds c.requires.kind
    (omega (arith, h, c.unit_limit.ensures)))

pub choose-requires-clause-inside : goal.choose-requires-clause-inside
choose-requires-clause-inside g c =
    (test_sound (g.S.Searchable.searched c.args.on.now) (g.met.S.Searchable.sound c.args.on.now) c.args.spot.now
    c.args.store.now.records c.args.registers.now c.requires.valid c.args.height c.requires.frame c.args.frame.now
    c.requires.at c.args.holds c.requires.kind).0

pub choose-requires-clause-condition : goal.choose-requires-clause-condition
choose-requires-clause-condition g c =
    (test_sound (g.S.Searchable.searched c.args.on.now) (g.met.S.Searchable.sound c.args.on.now) c.args.spot.now
    c.args.store.now.records c.args.registers.now c.requires.valid c.args.height c.requires.frame c.args.frame.now
    c.requires.at c.args.holds c.requires.kind).1

pub returns-clause-on : goal.returns-clause-on
unfolding entry_in
returns-clause-on g c =
    rw (c.go_back.ensures, c.in_default.ensures.spot, c.in_default.ensures.pushed)
    (turn_test_left (g.S.Searchable.searched c.args.on.now) (g.met.S.Searchable.sound c.args.on.now) c.args.spot.now
    c.args.store.now.records c.args.registers.now c.requires.valid c.args.height c.requires.frame
    c.args.frame.now c.requires.at c.args.holds c.requires.kind _ c.choose.ensures
    (omega (arith, c.in_default.ensures.room, c.unit_limit.ensures)))
