use Rattle.std.proofs.Common.{◌∙◌, sym, arith}
use Rattle.frame_store.specs.Entry.{entries}
use Rattle.frame_parts.proofs.PossessiveTurns.{no_place, stop_full, stop_reached, turn_none, stop_steps, stop_units}
use Rattle.frame_parts.proofs.PossessiveTurns.{turn_passed}
use Rattle.frame_state.proofs.HeldStops.{tells_stop}
use Rattle.frame_parts.proofs.possessive.pass_possessive.Goals as goal

pub returns-then-spot-limit-clause-stop : goal.returns-then-spot-limit-clause-stop
returns-then-spot-limit-clause-stop g c =
    tells_stop c.args.spot.now _ _ (stop_full (g.S.Searchable.searched c.args.on.now)
    (g.met.S.Searchable.sound c.args.on.now) c.args.at c.args.spot.now (entries c.args.store.now.records)
    c.args.registers.now c.requires.valid _ c.requires.node _ c.requires.only
    (omega (arith, c.if-spot-limit.true, c.unit_limit-limit.ensures)))

pub returns-in-Err-clause-stop : goal.returns-in-Err-clause-stop
returns-in-Err-clause-stop g c =
    stop_reached (g.S.Searchable.searched c.args.on.now) (g.met.S.Searchable.sound c.args.on.now) c.args.at
    c.args.spot.now (entries c.args.store.now.records) c.args.registers.now c.requires.valid _ c.requires.node _
    c.requires.only (omega (arith, c.if-spot-limit.false, c.unit_limit-limit.ensures)) _ c.in-Err.stop
    (rw c.first_place-first.ensures.at_end at c.in-Err.ensures.stop)

pub returns-in_default-place-clause-on : goal.returns-in_default-place-clause-on
returns-in_default-place-clause-on g c =
    turn_none (g.S.Searchable.searched c.args.on.now) (g.met.S.Searchable.sound c.args.on.now) c.args.at
    c.args.spot.now (entries c.args.store.now.records) c.args.registers.now c.requires.valid _ c.requires.node _
    c.requires.only (omega (arith, c.if-spot-limit.false, c.unit_limit-limit.ensures)) _
    (rw c.first_place-first.ensures.at_end at c.in_default.ensures.on)
    (sym c.first_place-first.ensures.place ∙ no_place c.first_place-first.result.place c.in_default-place.not-Some)

pub returns-then-spot-eq0-clause-stop : goal.returns-then-spot-eq0-clause-stop
returns-then-spot-eq0-clause-stop g c =
    stop_steps (g.S.Searchable.searched c.args.on.now) (g.met.S.Searchable.sound c.args.on.now) c.args.at
    c.args.spot.now (entries c.args.store.now.records) c.args.registers.now c.requires.valid _ c.requires.node _
    c.requires.only (omega (arith, c.if-spot-limit.false, c.unit_limit-limit.ensures)) _
    (rw c.first_place-first.ensures.at_end at c.in_default.ensures.on) c.in-Some.first
    (sym c.first_place-first.ensures.place ∙ c.in-Some.is) c.if-spot-eq0.true

pub returns-then-limit-spot-clause-stop : goal.returns-then-limit-spot-clause-stop
returns-then-limit-spot-clause-stop g c =
    stop_units (g.S.Searchable.searched c.args.on.now) (g.met.S.Searchable.sound c.args.on.now) c.args.at
    c.args.spot.now (entries c.args.store.now.records) c.args.registers.now c.requires.valid _ c.requires.node _
    c.requires.only (omega (arith, c.if-spot-limit.false, c.unit_limit-limit.ensures)) _
    (rw c.first_place-first.ensures.at_end at c.in_default.ensures.on) c.in-Some.first
    (sym c.first_place-first.ensures.place ∙ c.in-Some.is) (omega (arith, c.if-spot-eq0.false))
    (omega (arith, c.if-limit-spot.true, c.if-spot-limit.false, c.unit_limit-limit.ensures, c.units_of-units.ensures))

pub returns-clause-on : goal.returns-clause-on
returns-clause-on g c =
    rw (c.go_on.ensures, c.units_of-units.ensures)
    (turn_passed (g.S.Searchable.searched c.args.on.now) (g.met.S.Searchable.sound c.args.on.now) c.args.at
    c.args.spot.now (entries c.args.store.now.records) c.args.registers.now c.requires.valid _ c.requires.node _
    c.requires.only (omega (arith, c.if-spot-limit.false, c.unit_limit-limit.ensures)) _
    (rw c.first_place-first.ensures.at_end at c.in_default.ensures.on) c.in-Some.first
    (sym c.first_place-first.ensures.place ∙ c.in-Some.is) (omega (arith, c.if-spot-eq0.false))
    (omega (arith, c.if-limit-spot.false, c.if-spot-limit.false, c.unit_limit-limit.ensures, c.units_of-units.ensures)))
