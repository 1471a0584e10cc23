use Rattle.std.proofs.Common.{arith, sym}
use Rattle.std.proofs.lemmas.List.{length-map}
use Rattle.frame_store.specs.Entry.{entries, entry_of}
use Rattle.frame_state.proofs.HeldStops.{held_stop}
use Rattle.frame_looks.proofs.CondTurns.{turn_test, stop_test, test_parts, test_fixed, test_record}
use Rattle.frame_looks.proofs.conds.open_test.Goals as goal

pub returns-in-Err-clause-stop : goal.returns-in-Err-clause-stop
returns-in-Err-clause-stop g c =
    held_stop _ _ _ c.args.spot.now _ _ c.in-Err.ensures.last c.in-Err.stop c.in-Err.ensures.stop
    (λ h. stop_test (g.S.Searchable.searched c.args.on.now) (g.met.S.Searchable.sound c.args.on.now) c.args.at
    c.args.spot.now (entries c.args.store.now.records) c.args.registers.now c.requires.valid c.args.look
    c.requires.test c.args.branches.now c.args.forward c.args.positive c.requires.look
    (omega (arith, h, c.unit_limit.ensures)))

pub begin_branches-requires-clause-inside : goal.begin_branches-requires-clause-inside
begin_branches-requires-clause-inside g c = test_parts (g.S.Searchable.searched c.args.on.now)
    (g.met.S.Searchable.sound c.args.on.now) c.args.at c.args.spot.now (entries c.args.store.now.records)
    c.args.registers.now c.requires.valid c.args.look c.requires.test c.args.branches.now c.args.forward
    c.args.positive c.requires.look

pub begin_branches-requires-clause-fixed : goal.begin_branches-requires-clause-fixed
begin_branches-requires-clause-fixed g c = test_fixed (g.S.Searchable.searched c.args.on.now)
    (g.met.S.Searchable.sound c.args.on.now) c.args.at c.args.spot.now (entries c.args.store.now.records)
    c.args.registers.now c.requires.valid c.args.look c.requires.test c.args.branches.now c.args.forward
    c.args.positive c.requires.look

pub returns-clause-on : goal.returns-clause-on
returns-clause-on g c =
    rw (
      c.begin_branches.ensures.next,
      c.begin_branches.ensures.spot,
      c.in_default.ensures.spot,
      c.in_default.ensures.pushed,
      c.test_kind-kind.ensures,
      test_record c.args.positive c.args.spot.now c.args.at,
      sym (length-map c.args.store.now.records entry_of),
    )
    (turn_test (g.S.Searchable.searched c.args.on.now) (g.met.S.Searchable.sound c.args.on.now) c.args.at
    c.args.spot.now (entries c.args.store.now.records) c.args.registers.now c.requires.valid c.args.look
    c.requires.test c.args.branches.now c.args.forward c.args.positive c.requires.look
    (omega (arith, c.in_default.ensures.room, c.unit_limit.ensures)))
