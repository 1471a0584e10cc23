use Rattle.std.proofs.Common.{sym, subst, ◌≡◌, ◌∙◌, true, Some, length, arith}
use Rattle.frame_parts.proofs.Runs.{run_at, run_end, run_count, short_led, lazy_led, greedy_led, or_led, first_led}
use Rattle.frame_parts.proofs.Runs.{rest_led}
use Rattle.frame_parts.proofs.possessive.first_place.Goals as goal

pub run-most-requires-clause-place : goal.run-most-requires-clause-place
run-most-requires-clause-place g c =
    subst (λ p. (g.S.Searchable.searched c.args.on.now).stands p ≡ true) (sym c.run-least.ensures.to)
    (run_end (g.S.Searchable.searched c.args.on.now) (g.met.S.Searchable.sound c.args.on.now)
    c.args.repeat.now.item _ c.args.place c.requires.place).0

pub returns-then-least-repeat-clause-at_end : goal.returns-then-least-repeat-clause-at_end
returns-then-least-repeat-clause-at_end g c =
    c.run-least.ensures.at_end
    ∙ short_led (g.S.Searchable.searched c.args.on.now) (g.met.S.Searchable.sound c.args.on.now)
    c.args.repeat.now.item c.args.repeat.now.min c.args.repeat.now.max c.args.place c.requires.place
    c.requires.meet.ordered c.args.repeat.now.«lazy»
    (omega (arith, c.if-least-repeat.true, c.run-least.ensures.count))

pub returns-then-repeat-clause-at_end : goal.returns-then-repeat-clause-at_end
returns-then-repeat-clause-at_end g c =
    c.run-least.ensures.at_end
    ∙ lazy_led (g.S.Searchable.searched c.args.on.now) (g.met.S.Searchable.sound c.args.on.now) c.args.repeat.now.item
    c.args.repeat.now.min c.args.repeat.now.max c.args.place c.requires.place c.requires.meet.ordered
    c.args.repeat.now.«lazy» c.if-repeat.true

pub returns-then-least-clause-at_end : goal.returns-then-least-clause-at_end
returns-then-least-clause-at_end g c =
    let few = run_count (g.S.Searchable.searched c.args.on.now) (g.met.S.Searchable.sound c.args.on.now)
    c.args.repeat.now.item c.args.repeat.now.min c.args.place c.requires.place in
    let count : length (run_at (g.S.Searchable.searched c.args.on.now) (g.met.S.Searchable.sound c.args.on.now)
    c.args.repeat.now.item (Some c.args.repeat.now.min) c.args.place) ≡ c.args.repeat.now.min =
    omega (arith, few, c.if-least-repeat.false, c.run-least.ensures.count) in
    first_led _ c.run-most.result.at_end _ c.if-least.true
    (or_led _ _ _ _ _ c.run-least.ensures.at_end
    (rw (c.less.ensures, c.run-least.ensures.to) at c.run-most.ensures.at_end)
    (greedy_led (g.S.Searchable.searched c.args.on.now) (g.met.S.Searchable.sound c.args.on.now)
    c.args.repeat.now.item c.args.repeat.now.min c.args.repeat.now.max c.args.place c.requires.place
    c.requires.meet.ordered c.args.repeat.now.«lazy» c.if-repeat.false count))

pub returns-else-least-clause-at_end : goal.returns-else-least-clause-at_end
returns-else-least-clause-at_end g c =
    let few = run_count (g.S.Searchable.searched c.args.on.now) (g.met.S.Searchable.sound c.args.on.now)
    c.args.repeat.now.item c.args.repeat.now.min c.args.place c.requires.place in
    let count : length (run_at (g.S.Searchable.searched c.args.on.now) (g.met.S.Searchable.sound c.args.on.now)
    c.args.repeat.now.item (Some c.args.repeat.now.min) c.args.place) ≡ c.args.repeat.now.min =
    omega (arith, few, c.if-least-repeat.false, c.run-least.ensures.count) in
    rest_led _ _ _ c.if-least.false
    (or_led _ _ _ _ _ c.run-least.ensures.at_end
    (rw (c.less.ensures, c.run-least.ensures.to) at c.run-most.ensures.at_end)
    (greedy_led (g.S.Searchable.searched c.args.on.now) (g.met.S.Searchable.sound c.args.on.now)
    c.args.repeat.now.item c.args.repeat.now.min c.args.repeat.now.max c.args.place c.requires.place
    c.requires.meet.ordered c.args.repeat.now.«lazy» c.if-repeat.false count))
