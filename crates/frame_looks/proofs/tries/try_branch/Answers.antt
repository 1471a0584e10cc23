use Rattle.std.proofs.Common.{◌∙◌, arith, sym}
use Rattle.std.proofs.lemmas.List.{length-map}
use Rattle.frame_store.specs.Entry.{entry_in, entries, entry_of}
use Rattle.frame_state.specs.Machine.{place_at}
use Rattle.frame_state.proofs.HeldStops.{held_stop, tells_stop}
use Rattle.frame_state.proofs.TryTurns.{stop_at_try, stop_at_try_units, turn_last_try, turn_next_try}
use Rattle.frame_looks.proofs.TryLemmas.{least_same}
use Rattle.frame_looks.proofs.tries.try_branch.Goals as goal

pub back-least-requires-clause-inside : goal.back-least-requires-clause-inside
back-least-requires-clause-inside g c = c.requires.valid.running.0

pub back-least-requires-clause-fixed : goal.back-least-requires-clause-fixed
back-least-requires-clause-fixed g c = c.requires.valid.running.2.fixed

pub step_back-to-requires : goal.step_back-to-requires
step_back-to-requires g c = c.requires.valid.running.1.here

pub returns-then-spot-eq0-clause-stop : goal.returns-then-spot-eq0-clause-stop
returns-then-spot-eq0-clause-stop g c =
    tells_stop c.args.spot.now _ _
    (stop_at_try (g.S.Searchable.searched c.args.on.now) (g.met.S.Searchable.sound c.args.on.now) c.args.branch
    c.args.count c.args.spot.now (entries c.args.store.now.records) c.args.registers.now c.requires.valid
    c.if-spot-eq0.true)

pub returns-then-count-least-clause-on : goal.returns-then-count-least-clause-on
returns-then-count-least-clause-on g c =
    rw (c.begin_back.ensures.next, c.begin_back.ensures.spot, c.step_back-to.ensures)
    (turn_last_try (g.S.Searchable.searched c.args.on.now) (g.met.S.Searchable.sound c.args.on.now) c.args.branch
    c.args.count c.args.spot.now (entries c.args.store.now.records) c.args.registers.now c.requires.valid
    c.back-least.result.least
    (least_same (g.S.Searchable.searched c.args.on.now) c.args.branch c.args.count c.args.spot.now.place
    (place_at (entries c.args.store.now.records) c.args.spot.now.frame) c.requires.valid.running.2 c.back-least.result
    c.back-least.ensures)
    (omega (arith, c.if-count-least.true)) (omega (arith, c.if-spot-eq0.false)))

pub returns-in-Err-clause-stop : goal.returns-in-Err-clause-stop
returns-in-Err-clause-stop g c =
    held_stop _ _ _ c.args.spot.now _ _ c.in-Err.ensures.last c.in-Err.stop c.in-Err.ensures.stop
    (λ h. stop_at_try_units (g.S.Searchable.searched c.args.on.now) (g.met.S.Searchable.sound c.args.on.now)
    c.args.branch c.args.count c.args.spot.now (entries c.args.store.now.records) c.args.registers.now
    c.requires.valid c.back-least.result.least
    (least_same (g.S.Searchable.searched c.args.on.now) c.args.branch c.args.count c.args.spot.now.place
    (place_at (entries c.args.store.now.records) c.args.spot.now.frame) c.requires.valid.running.2 c.back-least.result
    c.back-least.ensures)
    (omega (arith, c.if-count-least.false)) (omega (arith, c.if-spot-eq0.false))
    (omega (arith, h, c.unit_limit.ensures)))

pub returns-clause-on : goal.returns-clause-on
unfolding entry_in
returns-clause-on g c =
    rw (
      c.begin_back-2.ensures.next,
      c.begin_back-2.ensures.spot,
      c.step_back-to.ensures,
      c.in_default.ensures.spot,
      c.in_default.ensures.pushed,
      c.record-record.ensures,
    )
    (turn_next_try (g.S.Searchable.searched c.args.on.now) (g.met.S.Searchable.sound c.args.on.now) c.args.branch
    c.args.count c.args.spot.now (entries c.args.store.now.records) c.args.registers.now c.requires.valid
    c.back-least.result.least
    (least_same (g.S.Searchable.searched c.args.on.now) c.args.branch c.args.count c.args.spot.now.place
    (place_at (entries c.args.store.now.records) c.args.spot.now.frame) c.requires.valid.running.2 c.back-least.result
    c.back-least.ensures)
    (omega (arith, c.if-count-least.false)) (omega (arith, c.if-spot-eq0.false)) _ (omega arith)
    (omega (arith, c.in_default.ensures.room, c.unit_limit.ensures)))
