use Rattle.std.proofs.Common.{◌∙◌, arith}
use Rattle.frame_store.specs.Entry.{entry_in, entries}
use Rattle.frame_state.proofs.HeldStops.{held_stop, tells_stop}
use Rattle.frame_parts.proofs.ItemTurns.{stop_fewer, stop_fewer_units, turn_fewer_last, turn_fewer_more}
use Rattle.frame_parts.proofs.PassTurns.{reaches_then, stops_then}
use Rattle.frame_parts.proofs.items.fewer.Goals as goal

pub returns-then-spot-eq0-clause-stop : goal.returns-then-spot-eq0-clause-stop
returns-then-spot-eq0-clause-stop g c = c.pass_fewer-last.ensures.answer
    ∙ tells_stop c.pass_fewer-last.new.spot _ _
    (stop_fewer (g.S.Searchable.searched c.args.on.now) (g.met.S.Searchable.sound c.args.on.now) c.args.at
    c.args.least c.pass_fewer-last.result c.pass_fewer-last.new.spot (entries c.args.store.now.records)
    c.args.registers.now c.pass_fewer-last.ensures.valid c.if-spot-eq0.true)

pub returns-then-last-least-clause-on : goal.returns-then-last-least-clause-on
returns-then-last-least-clause-on g c =
    reaches_then (g.S.Searchable.searched c.args.on.now) _ _ _ c.pass_fewer-last.ensures
    (rw c.go_on.ensures (turn_fewer_last (g.S.Searchable.searched c.args.on.now)
    (g.met.S.Searchable.sound c.args.on.now) c.args.at c.args.least c.pass_fewer-last.result
    c.pass_fewer-last.new.spot (entries c.args.store.now.records) c.args.registers.now
    c.pass_fewer-last.ensures.valid c.if-last-least.true (omega (arith, c.if-spot-eq0.false))))

pub returns-in-Err-clause-stop : goal.returns-in-Err-clause-stop
returns-in-Err-clause-stop g c =
    stops_then _ _ _ _ _ c.pass_fewer-last.ensures.answer
    (held_stop _ _ _ c.pass_fewer-last.new.spot _ _ c.in-Err.ensures.last c.in-Err.stop c.in-Err.ensures.stop
    (λ h. stop_fewer_units (g.S.Searchable.searched c.args.on.now) (g.met.S.Searchable.sound c.args.on.now) c.args.at
    c.args.least c.pass_fewer-last.result c.pass_fewer-last.new.spot (entries c.args.store.now.records)
    c.args.registers.now c.pass_fewer-last.ensures.valid c.if-last-least.false
    (omega (arith, c.if-spot-eq0.false)) (omega (arith, h, c.unit_limit.ensures))))

pub returns-clause-on : goal.returns-clause-on
unfolding entry_in
returns-clause-on g c =
    reaches_then (g.S.Searchable.searched c.args.on.now) _ _ _ c.pass_fewer-last.ensures
    (rw (c.go_on-2.ensures, c.in_default.ensures.spot, c.in_default.ensures.pushed, c.record-record.ensures)
    (turn_fewer_more (g.S.Searchable.searched c.args.on.now) (g.met.S.Searchable.sound c.args.on.now) c.args.at
    c.args.least c.pass_fewer-last.result c.pass_fewer-last.new.spot (entries c.args.store.now.records)
    c.args.registers.now c.pass_fewer-last.ensures.valid c.if-last-least.false
    (omega (arith, c.if-spot-eq0.false)) (omega (arith, c.in_default.ensures.room, c.unit_limit.ensures))))
