use Rattle.std.proofs.Common.{arith, sym}
use Rattle.frame_store.specs.Entry.{entry_in, entries}
use Rattle.frame_state.proofs.HeldStops.{held_stop}
use Rattle.frame_state.proofs.MostOf.{not_true, not_false}
use Rattle.frame_parts.proofs.RepeatTurns.{turn_below, turn_full, turn_greedy, turn_lazy, stop_lazy}
use Rattle.frame_parts.proofs.repeats.offer.Goals as goal

pub returns-then-count-turns-clause-on : goal.returns-then-count-turns-clause-on
returns-then-count-turns-clause-on g c = turn_below (g.S.Searchable.searched c.args.on.now)
    (g.met.S.Searchable.sound c.args.on.now) c.args.at c.args.count c.args.spot.now (entries c.args.store.now.records)
    c.args.registers.now c.turns_of-turns.result.body c.turns_of-turns.result.min c.turns_of-turns.result.max
    c.turns_of-turns.result.lazy c.turns_of-turns.ensures.is c.requires.valid c.if-count-turns.true

pub returns-then-is_last-clause-on : goal.returns-then-is_last-clause-on
returns-then-is_last-clause-on g c =
    rw c.go_on.ensures (turn_full (g.S.Searchable.searched c.args.on.now) (g.met.S.Searchable.sound c.args.on.now)
    c.args.at c.args.count c.args.spot.now (entries c.args.store.now.records) c.args.registers.now
    c.turns_of-turns.result.body c.turns_of-turns.result.min c.turns_of-turns.result.max
    c.turns_of-turns.result.lazy c.turns_of-turns.ensures.is c.requires.valid c.if-count-turns.false
    (sym c.if-is_last.ensures))

pub returns-then-not-turns-clause-on : goal.returns-then-not-turns-clause-on
returns-then-not-turns-clause-on g c = turn_greedy (g.S.Searchable.searched c.args.on.now)
    (g.met.S.Searchable.sound c.args.on.now) c.args.at c.args.count c.args.spot.now (entries c.args.store.now.records)
    c.args.registers.now c.turns_of-turns.result.body c.turns_of-turns.result.min c.turns_of-turns.result.max
    c.turns_of-turns.result.lazy c.turns_of-turns.ensures.is c.requires.valid c.if-count-turns.false
    (sym c.if-is_last.ensures) (not_true _ c.if-not-turns.true)

pub returns-in-Err-clause-stop : goal.returns-in-Err-clause-stop
returns-in-Err-clause-stop g c =
    held_stop _ _ _ c.args.spot.now _ _ c.in-Err.ensures.last c.in-Err.stop c.in-Err.ensures.stop
    (λ h. stop_lazy (g.S.Searchable.searched c.args.on.now) (g.met.S.Searchable.sound c.args.on.now) c.args.at
    c.args.count c.args.spot.now (entries c.args.store.now.records) c.args.registers.now
    c.turns_of-turns.result.body c.turns_of-turns.result.min c.turns_of-turns.result.max
    c.turns_of-turns.result.lazy c.turns_of-turns.ensures.is c.requires.valid c.if-count-turns.false
    (sym c.if-is_last.ensures) (not_false _ c.if-not-turns.false) (omega (arith, h, c.unit_limit.ensures)))

pub returns-clause-on : goal.returns-clause-on
unfolding entry_in
returns-clause-on g c =
    rw (c.go_on-2.ensures, c.in_default.ensures.spot, c.in_default.ensures.pushed, c.record-record.ensures)
    (turn_lazy (g.S.Searchable.searched c.args.on.now) (g.met.S.Searchable.sound c.args.on.now) c.args.at c.args.count
    c.args.spot.now (entries c.args.store.now.records) c.args.registers.now c.turns_of-turns.result.body
    c.turns_of-turns.result.min c.turns_of-turns.result.max c.turns_of-turns.result.lazy
    c.turns_of-turns.ensures.is c.requires.valid c.if-count-turns.false (sym c.if-is_last.ensures)
    (not_false _ c.if-not-turns.false) (omega (arith, c.in_default.ensures.room, c.unit_limit.ensures)))
