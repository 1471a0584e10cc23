use Rattle.std.proofs.Common.{arith, sym}
use Rattle.std.proofs.lemmas.List.{length-map}
use Rattle.frame_store.specs.Entry.{entry_in, entries, entry_of}
use Rattle.frame_state.proofs.HeldStops.{held_stop}
use Rattle.frame_looks.proofs.CallTurns.{turn_called_whole, turn_called_group_of, stop_group_of, stray_group}
use Rattle.frame_looks.proofs.calls.run_group.Goals as goal

pub returns-in_default-clause-on : goal.returns-in_default-clause-on
returns-in_default-clause-on g c = turn_called_whole (g.S.Searchable.searched c.args.on.now)
    (g.met.S.Searchable.sound c.args.on.now) c.args.part c.args.spot.now (entries c.args.store.now.records)
    c.args.registers.now c.requires.calling c.requires.callee _ c.requires.node
    (stray_group c.args.number c.args.branches.now c.in_default.not-Some)

pub returns-in-Err-clause-stop : goal.returns-in-Err-clause-stop
returns-in-Err-clause-stop g c =
    held_stop _ _ _ c.args.spot.now _ _ c.in-Err.ensures.last c.in-Err.stop c.in-Err.ensures.stop
    (λ h. stop_group_of (g.S.Searchable.searched c.args.on.now) (g.met.S.Searchable.sound c.args.on.now) c.args.part
    c.args.spot.now (entries c.args.store.now.records) c.args.registers.now c.requires.calling c.requires.callee
    c.args.number c.args.branches.now c.requires.node _ c.in-Some.is (omega (arith, h, c.unit_limit.ensures)))

pub returns-clause-on : goal.returns-clause-on
unfolding entry_in
returns-clause-on g c =
    rw (
      c.first_branch.ensures,
      c.in_default-open_frame.ensures.spot,
      c.in_default-open_frame.ensures.pushed,
      sym (length-map c.args.store.now.records entry_of),
    )
    (turn_called_group_of (g.S.Searchable.searched c.args.on.now) (g.met.S.Searchable.sound c.args.on.now) c.args.part
    c.args.spot.now (entries c.args.store.now.records) c.args.registers.now c.requires.calling c.requires.callee
    c.args.number c.args.branches.now c.requires.node _ c.in-Some.is
    (omega (arith, c.in_default-open_frame.ensures.room, c.unit_limit.ensures)))
