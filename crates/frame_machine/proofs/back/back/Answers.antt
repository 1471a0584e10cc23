use Rattle.frame_store.specs.Entry.{entries}
use Rattle.frame_state.proofs.Frames.{slots_sound}
use Rattle.frame_parts.proofs.BackTurns.{stop_none, pop_branch, pop_try, pop_exit, pop_later, pop_fewer, pop_more}
use Rattle.frame_parts.proofs.BackTurns.{pop_more_stops, pop_left, left_within, left_slots, exit_inside}
use Rattle.frame_parts.proofs.BackTurns.{fewer_stands, more_inside, more_many, more_stands, more_few}
use Rattle.frame_state.proofs.HeldStops.{tells_stop}
use Rattle.frame_state.proofs.MostOf.{ok_more}
use Rattle.frame_state.proofs.ReachTurns.{err_more}
use Rattle.frame_machine.proofs.Popped.{is_newest, popped_leads}
use Rattle.frame_machine.proofs.back.back.Goals as goal

pub pop-requires : goal.pop-requires
pop-requires g c = slots_sound (g.S.Searchable.searched c.args.on.now) c.args.spot.now.left c.args.registers.now
    (entries c.args.store.now.records) c.requires.valid.records

pub returns-in_default-clause-stop : goal.returns-in_default-clause-stop
returns-in_default-clause-stop g c = tells_stop c.args.spot.now _ _
    (stop_none (g.S.Searchable.searched c.args.on.now) c.args.spot.now c.args.store.now.records c.args.registers.now
    c.in_default.ensures.popped)

pub returns-then-newest-eq-KIND_LATER_BRANCH-clause-on : goal.returns-then-newest-eq-KIND_LATER_BRANCH-clause-on
returns-then-newest-eq-KIND_LATER_BRANCH-clause-on g c =
    rw c.restore.ensures (pop_branch (g.S.Searchable.searched c.args.on.now) (g.met.S.Searchable.sound c.args.on.now)
    c.args.spot.now c.args.store.now.records c.pop.new.store.records c.in-Some.newest c.args.registers.now
    c.pop.new.registers c.requires.valid c.in-Some.ensures.popped c.in-Some.ensures.back
    c.if-newest-eq-KIND_LATER_BRANCH.true)

pub returns-then-newest-eq-KIND_LATER_TRY-clause-on : goal.returns-then-newest-eq-KIND_LATER_TRY-clause-on
returns-then-newest-eq-KIND_LATER_TRY-clause-on g c =
    rw c.restore-then-newest-eq-KIND_LATER_TRY.ensures
    (pop_try (g.S.Searchable.searched c.args.on.now) (g.met.S.Searchable.sound c.args.on.now) c.args.spot.now
    c.args.store.now.records c.pop.new.store.records c.in-Some.newest c.args.registers.now c.pop.new.registers
    c.requires.valid c.in-Some.ensures.popped c.in-Some.ensures.back c.if-newest-eq-KIND_LATER_TRY.true)

pub go_on-requires : goal.go_on-requires
go_on-requires g c = exit_inside (g.S.Searchable.searched c.args.on.now) (g.met.S.Searchable.sound c.args.on.now)
    c.args.spot.now c.args.store.now.records c.pop.new.store.records c.in-Some.newest c.args.registers.now
    c.pop.new.registers c.requires.valid c.in-Some.ensures.popped c.in-Some.ensures.back
    c.if-newest-eq-KIND_TURN_OR_EXIT.true

pub returns-then-newest-eq-KIND_TURN_OR_EXIT-clause-on : goal.returns-then-newest-eq-KIND_TURN_OR_EXIT-clause-on
returns-then-newest-eq-KIND_TURN_OR_EXIT-clause-on g c =
    rw (c.go_on.ensures, c.restore-then-newest-eq-KIND_TURN_OR_EXIT.ensures)
    (pop_exit (g.S.Searchable.searched c.args.on.now) (g.met.S.Searchable.sound c.args.on.now) c.args.spot.now
    c.args.store.now.records c.pop.new.store.records c.in-Some.newest c.args.registers.now c.pop.new.registers
    c.requires.valid c.in-Some.ensures.popped c.in-Some.ensures.back c.if-newest-eq-KIND_TURN_OR_EXIT.true)

pub returns-then-newest-eq-KIND_LATER_TURN-clause-on : goal.returns-then-newest-eq-KIND_LATER_TURN-clause-on
returns-then-newest-eq-KIND_LATER_TURN-clause-on g c =
    rw c.restore-then-newest-eq-KIND_LATER_TURN.ensures
    (pop_later (g.S.Searchable.searched c.args.on.now) (g.met.S.Searchable.sound c.args.on.now) c.args.spot.now
    c.args.store.now.records c.pop.new.store.records c.in-Some.newest c.args.registers.now c.pop.new.registers
    c.requires.valid c.in-Some.ensures.popped c.in-Some.ensures.back c.if-newest-eq-KIND_LATER_TURN.true)

pub fewer_before-requires : goal.fewer_before-requires
fewer_before-requires g c = fewer_stands (g.S.Searchable.searched c.args.on.now)
    (g.met.S.Searchable.sound c.args.on.now) c.args.spot.now c.args.store.now.records c.pop.new.store.records
    c.in-Some.newest c.args.registers.now c.pop.new.registers c.requires.valid c.in-Some.ensures.popped
    c.in-Some.ensures.back c.if-newest-eq-KIND_FEWER_ITEMS.true

pub returns-then-newest-eq-KIND_FEWER_ITEMS-clause-on : goal.returns-then-newest-eq-KIND_FEWER_ITEMS-clause-on
returns-then-newest-eq-KIND_FEWER_ITEMS-clause-on g c =
    rw (c.fewer_before.ensures, c.restore-then-newest-eq-KIND_FEWER_ITEMS.ensures)
    (pop_fewer (g.S.Searchable.searched c.args.on.now) (g.met.S.Searchable.sound c.args.on.now) c.args.spot.now
    c.args.store.now.records c.pop.new.store.records c.in-Some.newest c.args.registers.now c.pop.new.registers
    c.requires.valid c.in-Some.ensures.popped c.in-Some.ensures.back c.if-newest-eq-KIND_FEWER_ITEMS.true)

pub take_more-requires-clause-inside : goal.take_more-requires-clause-inside
take_more-requires-clause-inside g c = more_inside (g.S.Searchable.searched c.args.on.now)
    (g.met.S.Searchable.sound c.args.on.now) c.args.spot.now c.args.store.now.records c.pop.new.store.records
    c.in-Some.newest c.args.registers.now c.pop.new.registers c.requires.valid c.in-Some.ensures.popped
    c.in-Some.ensures.back c.if-newest-eq-KIND_MORE_ITEMS.true

pub take_more-requires-clause-many : goal.take_more-requires-clause-many
take_more-requires-clause-many g c = more_many (g.S.Searchable.searched c.args.on.now)
    (g.met.S.Searchable.sound c.args.on.now) c.args.spot.now c.args.store.now.records c.pop.new.store.records
    c.in-Some.newest c.args.registers.now c.pop.new.registers c.requires.valid c.in-Some.ensures.popped
    c.in-Some.ensures.back c.if-newest-eq-KIND_MORE_ITEMS.true

pub take_more-requires-clause-place : goal.take_more-requires-clause-place
take_more-requires-clause-place g c = more_stands (g.S.Searchable.searched c.args.on.now)
    (g.met.S.Searchable.sound c.args.on.now) c.args.spot.now c.args.store.now.records c.pop.new.store.records
    c.in-Some.newest c.args.registers.now c.pop.new.registers c.requires.valid c.in-Some.ensures.popped
    c.in-Some.ensures.back c.if-newest-eq-KIND_MORE_ITEMS.true

pub take_more-requires-clause-count : goal.take_more-requires-clause-count
take_more-requires-clause-count g c = more_few (g.S.Searchable.searched c.args.on.now)
    (g.met.S.Searchable.sound c.args.on.now) c.args.spot.now c.args.store.now.records c.pop.new.store.records
    c.in-Some.newest c.args.registers.now c.pop.new.registers c.requires.valid c.in-Some.ensures.popped
    c.in-Some.ensures.back c.if-newest-eq-KIND_MORE_ITEMS.true

pub returns-then-newest-eq-KIND_MORE_ITEMS-clause-on : goal.returns-then-newest-eq-KIND_MORE_ITEMS-clause-on
returns-then-newest-eq-KIND_MORE_ITEMS-clause-on g c =
    ok_more _ _ c.take_more.result
    (λ next t. pop_more (g.S.Searchable.searched c.args.on.now) (g.met.S.Searchable.sound c.args.on.now)
    c.args.spot.now c.args.store.now.records c.pop.new.store.records c.in-Some.newest c.args.registers.now
    c.pop.new.registers c.requires.valid c.in-Some.ensures.popped c.in-Some.ensures.back
    c.if-newest-eq-KIND_MORE_ITEMS.true next _ (rw c.restore-then-newest-eq-KIND_MORE_ITEMS.ensures at t))
    c.take_more.ensures.on

pub returns-then-newest-eq-KIND_MORE_ITEMS-clause-stop : goal.returns-then-newest-eq-KIND_MORE_ITEMS-clause-stop
returns-then-newest-eq-KIND_MORE_ITEMS-clause-stop g c =
    err_more _ _ c.take_more.result
    (λ s h. pop_more_stops (g.S.Searchable.searched c.args.on.now) (g.met.S.Searchable.sound c.args.on.now)
    c.args.spot.now c.args.store.now.records c.pop.new.store.records c.in-Some.newest c.args.registers.now
    c.pop.new.registers c.requires.valid c.in-Some.ensures.popped c.in-Some.ensures.back
    c.if-newest-eq-KIND_MORE_ITEMS.true _ s (rw c.restore-then-newest-eq-KIND_MORE_ITEMS.ensures at h))
    c.take_more.ensures.stop

pub undo_spans-requires-clause-within : goal.undo_spans-requires-clause-within
undo_spans-requires-clause-within g c = left_within (g.S.Searchable.searched c.args.on.now)
    (g.met.S.Searchable.sound c.args.on.now) c.args.spot.now c.args.store.now.records c.pop.new.store.records
    c.in-Some.newest c.args.registers.now c.pop.new.registers c.requires.valid c.in-Some.ensures.popped
    c.in-Some.ensures.back c.if-newest-eq-KIND_ATOMIC_LEFT.true

pub undo_spans-requires-clause-slots : goal.undo_spans-requires-clause-slots
undo_spans-requires-clause-slots g c = left_slots (g.S.Searchable.searched c.args.on.now)
    (g.met.S.Searchable.sound c.args.on.now) c.args.spot.now c.args.store.now.records c.pop.new.store.records
    c.in-Some.newest c.args.registers.now c.pop.new.registers c.requires.valid c.in-Some.ensures.popped
    c.in-Some.ensures.back

pub returns-then-newest-eq-KIND_ATOMIC_LEFT-clause-on : goal.returns-then-newest-eq-KIND_ATOMIC_LEFT-clause-on
returns-then-newest-eq-KIND_ATOMIC_LEFT-clause-on g c =
    pop_left (g.S.Searchable.searched c.args.on.now) (g.met.S.Searchable.sound c.args.on.now) c.args.spot.now
    c.args.store.now.records c.pop.new.store.records c.in-Some.newest c.args.registers.now c.pop.new.registers
    c.requires.valid c.in-Some.ensures.popped c.in-Some.ensures.back c.if-newest-eq-KIND_ATOMIC_LEFT.true _
    c.undo_spans.ensures.cut _ c.undo_spans.ensures.undone

pub look_or_verb-requires-clause-newest : goal.look_or_verb-requires-clause-newest
look_or_verb-requires-clause-newest g c = is_newest (g.S.Searchable.searched c.args.on.now) c.args.spot.now _ _
    c.in-Some.newest c.args.registers.now c.requires.valid c.in-Some.ensures.popped

pub look_or_verb-requires-clause-other : goal.look_or_verb-requires-clause-other
look_or_verb-requires-clause-other g c = (
  c.if-newest-eq-KIND_LATER_BRANCH.false,
  c.if-newest-eq-KIND_TURN_OR_EXIT.false,
  c.if-newest-eq-KIND_LATER_TURN.false,
  c.if-newest-eq-KIND_FEWER_ITEMS.false,
  c.if-newest-eq-KIND_MORE_ITEMS.false,
  c.if-newest-eq-KIND_ATOMIC_LEFT.false,
  c.if-newest-eq-KIND_LATER_TRY.false,
)

pub returns-clause-on : goal.returns-clause-on
returns-clause-on g c = popped_leads (g.S.Searchable.searched c.args.on.now) _ _ _ _ _ _ _ _ c.requires.valid
    c.in-Some.ensures.popped c.in-Some.ensures.back c.look_or_verb.ensures
