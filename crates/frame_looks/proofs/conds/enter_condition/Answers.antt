use Rattle.std.proofs.Common.{refl, length}
use Rattle.frame_store.specs.Entry.{entries}
use Rattle.frame_looks.proofs.CondTurns.{set_slots, turn_any_set, turn_in_call, turn_in_call_of, turn_never}
use Rattle.frame_looks.proofs.CondTurns.{condition_here, test_is}
use Rattle.frame_state.proofs.CallFrames.{nested}
use Rattle.frame_state.proofs.CalloutTurns.{still}
use Rattle.frame_looks.proofs.conds.enter_condition.Goals as goal

pub is_set-holds-requires : goal.is_set-holds-requires
is_set-holds-requires g c = rw c.as_slice.ensures
    (set_slots (g.S.Searchable.searched c.args.on.now) c.args.at c.args.test.now c.args.yes c.args.no _
    c.args.registers.now c.requires.node c.in-AnySet.is c.requires.valid.slots)

pub choose-requires-clause-inside : goal.choose-requires-clause-inside
choose-requires-clause-inside g c = c.requires.valid.running.0

pub choose-requires-clause-condition : goal.choose-requires-clause-condition
choose-requires-clause-condition g c = condition_here (g.S.Searchable.searched c.args.on.now)
    (g.met.S.Searchable.sound c.args.on.now) c.args.at c.requires.valid.running.0 _ c.requires.node _ _ _ refl

pub returns-in-AnySet-clause-on : goal.returns-in-AnySet-clause-on
returns-in-AnySet-clause-on g c =
    still _ _ _ _ (turn_any_set (g.S.Searchable.searched c.args.on.now) (g.met.S.Searchable.sound c.args.on.now)
    c.args.at c.args.spot.now (entries c.args.store.now.records) c.args.registers.now c.requires.valid
    c.args.test.now _ c.args.yes c.args.no c.requires.node c.in-AnySet.is _
    (rw (c.is_set-holds.ensures, c.as_slice.ensures) at c.choose.ensures))

pub enter_test-requires-clause-asserted : goal.enter_test-requires-clause-asserted
enter_test-requires-clause-asserted g c = test_is (g.S.Searchable.searched c.args.on.now) c.args.at c.args.test.now
    c.args.yes c.args.no c.requires.node _ c.in-Assert.is

pub in_call-holds-requires-clause-nested : goal.in_call-holds-requires-clause-nested
in_call-holds-requires-clause-nested g c = nested (g.S.Searchable.searched c.args.on.now) c.args.spot.now.left
    (length c.args.registers.now) (entries c.args.store.now.records) c.requires.valid.records

pub in_call_of-holds-requires-clause-nested : goal.in_call_of-holds-requires-clause-nested
in_call_of-holds-requires-clause-nested g c = nested (g.S.Searchable.searched c.args.on.now) c.args.spot.now.left
    (length c.args.registers.now) (entries c.args.store.now.records) c.requires.valid.records

pub returns-in-InCall-clause-on : goal.returns-in-InCall-clause-on
returns-in-InCall-clause-on g c =
    still _ _ _ _ (turn_in_call (g.S.Searchable.searched c.args.on.now) (g.met.S.Searchable.sound c.args.on.now)
    c.args.at c.args.spot.now (entries c.args.store.now.records) c.args.registers.now c.requires.valid
    c.args.test.now c.args.yes c.args.no c.requires.node c.in-InCall.is _
    (rw c.in_call-holds.ensures at c.choose-in-InCall.ensures))

pub returns-in-InCallOf-clause-on : goal.returns-in-InCallOf-clause-on
returns-in-InCallOf-clause-on g c =
    still _ _ _ _ (turn_in_call_of (g.S.Searchable.searched c.args.on.now) (g.met.S.Searchable.sound c.args.on.now)
    c.args.at c.args.spot.now (entries c.args.store.now.records) c.args.registers.now c.requires.valid
    c.args.test.now _ c.args.yes c.args.no c.requires.node c.in-InCallOf.is _
    (rw (c.in_call_of-holds.ensures, c.as_slice-in-InCallOf.ensures) at c.choose-in-InCallOf.ensures))

pub returns-in-Never-clause-on : goal.returns-in-Never-clause-on
returns-in-Never-clause-on g c =
    still _ _ _ _ (turn_never (g.S.Searchable.searched c.args.on.now) (g.met.S.Searchable.sound c.args.on.now)
    c.args.at c.args.spot.now (entries c.args.store.now.records) c.args.registers.now c.requires.valid
    c.args.test.now c.args.yes c.args.no c.requires.node c.in-Never.is _ c.choose-in-Never.ensures)
