use Rattle.std.proofs.Common.{arith, sym, refl}
use Rattle.std.proofs.lemmas.List.{length-map}
use Rattle.frame_store.specs.Entry.{entry_in, entry_of, entries}
use Rattle.frame_state.proofs.HeldStops.{held_stop}
use Rattle.frame_state.proofs.Turns.{turn_group_of, turn_capture_of, stop_capture_of}
use Rattle.frame_machine.proofs.enter.enter_group.Goals as goal

pub returns-in_default-clause-on : goal.returns-in_default-clause-on
returns-in_default-clause-on g c = rw c.first_branch.ensures
    (turn_group_of (g.S.Searchable.searched c.args.on.now) (g.met.S.Searchable.sound c.args.on.now) c.args.at
    c.args.spot.now (entries c.args.store.now.records) c.args.registers.now c.requires.valid _ c.requires.node _ _
    refl c.in_default.not-Some)

pub returns-clause-on : goal.returns-clause-on
unfolding entry_in
returns-clause-on g c =
    rw (
      c.first_branch-2.ensures,
      c.len.ensures,
      c.in_default-hold.ensures.spot,
      c.in_default-hold.ensures.pushed,
      c.record-record.ensures,
      sym (length-map c.args.store.now.records entry_of),
    )
    (turn_capture_of (g.S.Searchable.searched c.args.on.now) (g.met.S.Searchable.sound c.args.on.now) c.args.at
    c.args.spot.now (entries c.args.store.now.records) c.args.registers.now c.requires.valid _ c.requires.node _
    _ refl _ c.in-Some.is (omega (arith, c.in_default-hold.ensures.room, c.unit_limit.ensures)))

pub returns-in-Err-clause-stop : goal.returns-in-Err-clause-stop
returns-in-Err-clause-stop g c =
    held_stop _ _ _ c.args.spot.now _ _ c.in-Err.ensures.last c.in-Err.stop c.in-Err.ensures.stop
    (λ h. stop_capture_of (g.S.Searchable.searched c.args.on.now) (g.met.S.Searchable.sound c.args.on.now) c.args.at
    c.args.spot.now (entries c.args.store.now.records) c.args.registers.now c.requires.valid _ c.requires.node _
    _ refl _ c.in-Some.is (omega (arith, h, c.unit_limit.ensures)))
