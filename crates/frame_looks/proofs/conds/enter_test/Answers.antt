use Rattle.std.proofs.Common.{ap, subst}
use Rattle.frame_store.specs.Entry.{entries}
use Rattle.frame_state.specs.Ground.{IsNode}
use Rattle.frame_state.specs.Stops.{tells}
use Rattle.frame_state.proofs.CalloutTurns.{ok_by, err_same}
use Rattle.frame_looks.proofs.CondTurns.{asserted_inside, is_tested, looks_first, stray_test, look_is}
use Rattle.frame_looks.proofs.conds.enter_test.Goals as goal

pub node-requires : goal.node-requires
node-requires g c = asserted_inside (g.S.Searchable.searched c.args.on.now) (g.met.S.Searchable.sound c.args.on.now)
    c.args.at c.args.spot.now (entries c.args.store.now.records) c.args.registers.now c.requires.valid c.args.part
    c.requires.asserted

pub open_test-requires-clause-test : goal.open_test-requires-clause-test
open_test-requires-clause-test g c = record {
  part = c.args.part;
  asserted = c.requires.asserted;
  inside = asserted_inside (g.S.Searchable.searched c.args.on.now) (g.met.S.Searchable.sound c.args.on.now) c.args.at
      c.args.spot.now (entries c.args.store.now.records) c.args.registers.now c.requires.valid c.args.part
      c.requires.asserted;
}

pub open_test-requires-clause-look : goal.open_test-requires-clause-look
open_test-requires-clause-look g c = look_is (g.S.Searchable.searched c.args.on.now) c.args.part _ c.node.ensures _ _
    _ _ c.in-Look.is

pub returns-in-Look-clause-on : goal.returns-in-Look-clause-on
returns-in-Look-clause-on g c =
    ok_by _ _ _ _ _ c.open_test.result
    (looks_first (g.S.Searchable.searched c.args.on.now) (g.met.S.Searchable.sound c.args.on.now) c.args.at
    c.args.spot.now (entries c.args.store.now.records) c.args.registers.now c.requires.valid c.args.part
    c.requires.asserted _ _ _ (look_is (g.S.Searchable.searched c.args.on.now) c.args.part _ c.node.ensures _ _
    _ _ c.in-Look.is))
    c.open_test.ensures.on

pub returns-in-Look-clause-stop : goal.returns-in-Look-clause-stop
returns-in-Look-clause-stop g c =
    err_same _ _ _ _ _ c.open_test.result
    (ap (tells (g.S.Searchable.searched c.args.on.now).setting c.args.spot.now)
    (looks_first (g.S.Searchable.searched c.args.on.now) (g.met.S.Searchable.sound c.args.on.now) c.args.at
    c.args.spot.now (entries c.args.store.now.records) c.args.registers.now c.requires.valid c.args.part
    c.requires.asserted _ _ _ (look_is (g.S.Searchable.searched c.args.on.now) c.args.part _ c.node.ensures _ _
    _ _ c.in-Look.is)))
    c.open_test.ensures.stop

pub enter_called-requires-clause-node : goal.enter_called-requires-clause-node
enter_called-requires-clause-node g c = subst (IsNode (g.S.Searchable.searched c.args.on.now) c.args.part) c.in-Seq.is
    c.node.ensures

pub unreachable-requires : goal.unreachable-requires
unreachable-requires g c =
    stray_test (g.S.Searchable.searched c.args.on.now) c.args.part _ c.node.ensures
    (is_tested (g.S.Searchable.searched c.args.on.now) (g.met.S.Searchable.sound c.args.on.now) c.args.at
    c.args.spot.now (entries c.args.store.now.records) c.args.registers.now c.requires.valid c.args.part
    c.requires.asserted)
    c.in_default.not-Look c.in_default.not-Seq
