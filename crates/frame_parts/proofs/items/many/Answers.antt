use Rattle.std.proofs.Common.{sym, subst, ◌≡◌, ◌∙◌, true, Some, length, arith}
use Rattle.frame_parts.proofs.Runs.{run_at, run_end, run_count, short_led, lazy_led, greedy_led, or_led, first_led}
use Rattle.frame_parts.proofs.Runs.{rest_led}
use Rattle.frame_parts.proofs.items.many.Goals as goal

pub run-rest-requires-clause-place : goal.run-rest-requires-clause-place
run-rest-requires-clause-place g c =
    subst (λ p. (g.S.Searchable.searched c.args.on.now).stands p ≡ true) (sym c.run-first.ensures.to)
    (run_end (g.S.Searchable.searched c.args.on.now) (g.met.S.Searchable.sound c.args.on.now) c.args.item.now _
    c.args.place c.requires.place).0

pub returns-then-first-min-clause-at_end : goal.returns-then-first-min-clause-at_end
returns-then-first-min-clause-at_end g c =
    (rw c.from-min.ensures at c.run-first.ensures.at_end)
    ∙ short_led (g.S.Searchable.searched c.args.on.now) (g.met.S.Searchable.sound c.args.on.now) c.args.item.now
    c.args.min c.args.max c.args.place c.requires.place c.requires.ordered c.args.lazy
    (omega (arith, c.if-first-min.true, rw c.from-min.ensures at c.run-first.ensures.count, c.from-min.ensures))

pub returns-then-lazy-clause-at_end : goal.returns-then-lazy-clause-at_end
returns-then-lazy-clause-at_end g c =
    (rw c.from-min.ensures at c.run-first.ensures.at_end)
    ∙ lazy_led (g.S.Searchable.searched c.args.on.now) (g.met.S.Searchable.sound c.args.on.now) c.args.item.now
    c.args.min c.args.max c.args.place c.requires.place c.requires.ordered c.args.lazy c.if-lazy.true

pub returns-then-first-clause-at_end : goal.returns-then-first-clause-at_end
returns-then-first-clause-at_end g c =
    let few = run_count (g.S.Searchable.searched c.args.on.now) (g.met.S.Searchable.sound c.args.on.now)
    c.args.item.now c.args.min c.args.place c.requires.place in
    let count : length (run_at (g.S.Searchable.searched c.args.on.now) (g.met.S.Searchable.sound c.args.on.now)
    c.args.item.now (Some c.args.min) c.args.place) ≡ c.args.min =
    omega (
      arith,
      few,
      c.if-first-min.false,
      rw c.from-min.ensures at c.run-first.ensures.count,
      c.from-min.ensures,
    ) in
    first_led _ c.run-rest.result.at_end _ c.if-first.true
    (or_led _ _ _ _ _ (rw c.from-min.ensures at c.run-first.ensures.at_end)
    (rw (c.less.ensures, c.widen-max.ensures, c.run-first.ensures.to, c.from-min.ensures) at c.run-rest.ensures.at_end)
    (greedy_led (g.S.Searchable.searched c.args.on.now) (g.met.S.Searchable.sound c.args.on.now) c.args.item.now
    c.args.min c.args.max c.args.place c.requires.place c.requires.ordered c.args.lazy c.if-lazy.false count))

pub returns-else-first-clause-at_end : goal.returns-else-first-clause-at_end
returns-else-first-clause-at_end g c =
    let few = run_count (g.S.Searchable.searched c.args.on.now) (g.met.S.Searchable.sound c.args.on.now)
    c.args.item.now c.args.min c.args.place c.requires.place in
    let count : length (run_at (g.S.Searchable.searched c.args.on.now) (g.met.S.Searchable.sound c.args.on.now)
    c.args.item.now (Some c.args.min) c.args.place) ≡ c.args.min =
    omega (
      arith,
      few,
      c.if-first-min.false,
      rw c.from-min.ensures at c.run-first.ensures.count,
      c.from-min.ensures,
    ) in
    rest_led _ _ _ c.if-first.false
    (or_led _ _ _ _ _ (rw c.from-min.ensures at c.run-first.ensures.at_end)
    (rw (c.less.ensures, c.widen-max.ensures, c.run-first.ensures.to, c.from-min.ensures) at c.run-rest.ensures.at_end)
    (greedy_led (g.S.Searchable.searched c.args.on.now) (g.met.S.Searchable.sound c.args.on.now) c.args.item.now
    c.args.min c.args.max c.args.place c.requires.place c.requires.ordered c.args.lazy c.if-lazy.false count))
