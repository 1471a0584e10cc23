use Rattle.std.proofs.Common.{◌∙◌, arith, sym, refl}
use Rattle.frame_store.specs.Entry.{entry_in, entries}
use Rattle.frame_state.proofs.HeldStops.{held_stop, tells_stop}
use Rattle.frame_state.specs.Ground.{tree_of}
use Rattle.frame_state.proofs.MostOf.{most}
use Rattle.frame_parts.proofs.ItemTurns.{stop_more, stop_more_units, turn_more_last, turn_more_more}
use Rattle.frame_parts.proofs.PassTurns.{reaches_then, stops_then}
use Rattle.frame_parts.proofs.items.more.Goals as goal

pub returns-then-spot-eq0-clause-stop : goal.returns-then-spot-eq0-clause-stop
returns-then-spot-eq0-clause-stop g c =
    let m = most (tree_of (g.S.Searchable.searched c.args.on.now) c.args.at) c.most_of-most.result
    c.most_of-most.ensures in
    c.pass_more-run.ensures.answer ∙ tells_stop c.pass_more-run.new.spot _ _
    (stop_more (g.S.Searchable.searched c.args.on.now) (g.met.S.Searchable.sound c.args.on.now) c.args.at
    c.pass_more-run.result.count c.pass_more-run.result.to c.pass_more-run.new.spot
    (entries c.args.store.now.records) c.args.registers.now c.pass_more-run.ensures.valid m.item m.low
    c.most_of-most.result m.lazily m.is c.if-spot-eq0.true _ refl)

pub returns-then-is_last-clause-on : goal.returns-then-is_last-clause-on
returns-then-is_last-clause-on g c =
    let m = most (tree_of (g.S.Searchable.searched c.args.on.now) c.args.at) c.most_of-most.result
    c.most_of-most.ensures in
    reaches_then (g.S.Searchable.searched c.args.on.now) _ _ _ c.pass_more-run.ensures
    (rw c.go_on.ensures (turn_more_last (g.S.Searchable.searched c.args.on.now)
    (g.met.S.Searchable.sound c.args.on.now) c.args.at c.pass_more-run.result.count c.pass_more-run.result.to
    c.pass_more-run.new.spot (entries c.args.store.now.records) c.args.registers.now
    c.pass_more-run.ensures.valid m.item m.low c.most_of-most.result m.lazily m.is (sym c.if-is_last.ensures)
    (omega (arith, c.if-spot-eq0.false))))

pub returns-in-Err-clause-stop : goal.returns-in-Err-clause-stop
returns-in-Err-clause-stop g c =
    let m = most (tree_of (g.S.Searchable.searched c.args.on.now) c.args.at) c.most_of-most.result
    c.most_of-most.ensures in
    stops_then _ _ _ _ _ c.pass_more-run.ensures.answer
    (held_stop _ _ _ c.pass_more-run.new.spot _ _ c.in-Err.ensures.last c.in-Err.stop c.in-Err.ensures.stop
    (λ h. stop_more_units (g.S.Searchable.searched c.args.on.now) (g.met.S.Searchable.sound c.args.on.now) c.args.at
    c.pass_more-run.result.count c.pass_more-run.result.to c.pass_more-run.new.spot
    (entries c.args.store.now.records) c.args.registers.now c.pass_more-run.ensures.valid m.item m.low
    c.most_of-most.result m.lazily m.is (sym c.if-is_last.ensures) (omega (arith, c.if-spot-eq0.false))
    (omega (arith, h, c.unit_limit.ensures))))

pub returns-clause-on : goal.returns-clause-on
unfolding entry_in
returns-clause-on g c =
    let m = most (tree_of (g.S.Searchable.searched c.args.on.now) c.args.at) c.most_of-most.result
    c.most_of-most.ensures in
    reaches_then (g.S.Searchable.searched c.args.on.now) _ _ _ c.pass_more-run.ensures
    (rw (c.go_on-2.ensures, c.in_default.ensures.spot, c.in_default.ensures.pushed, c.record-record.ensures)
    (turn_more_more (g.S.Searchable.searched c.args.on.now) (g.met.S.Searchable.sound c.args.on.now) c.args.at
    c.pass_more-run.result.count c.pass_more-run.result.to c.pass_more-run.new.spot
    (entries c.args.store.now.records) c.args.registers.now c.pass_more-run.ensures.valid m.item m.low
    c.most_of-most.result m.lazily m.is (sym c.if-is_last.ensures) (omega (arith, c.if-spot-eq0.false))
    (omega (arith, c.in_default.ensures.room, c.unit_limit.ensures))))
