use Rattle.std.proofs.Common.{ℕ, ◌<◌, List, length, slice_index, subst, arith}
use Rattle.grep_watch.proofs.Passing.{reaches-quiet, reaches-clear}
use Rattle.grep_watch.proofs.watch.Watch.reach.Goals as goal

pub returns-then-gives_whole-clause-reach : goal.returns-then-gives_whole-clause-reach
returns-then-gives_whole-clause-reach c = λ plan patterns had.
    let low = c.min-within.ensures in
    reaches-quiet plan patterns c.in-Some.needed c.look.new.self c.args.feed.now c.min-within.result c.in-Some.is
    (c.gives_whole.ensures c.if-gives_whole.true)
    (subst (λ (l : List ℕ). (k : ℕ) → k < length l → slice_index l k < 256) c.held.ensures c.are_bytes.ensures)
    (omega (arith, low)) (omega (arith, low)) (c.look.ensures plan patterns had)

pub returns-then-ends_in_lf-clause-reach : goal.returns-then-ends_in_lf-clause-reach
returns-then-ends_in_lf-clause-reach c = λ plan patterns had.
    let low = c.min-within-then-ends_in_lf.ensures in
    reaches-clear plan patterns c.look.new.self c.args.feed.now c.min-within-then-ends_in_lf.result c.in_default.is
    (c.ends_in_lf.ensures c.if-ends_in_lf.true) (omega (arith, low)) (omega (arith, low))
    (c.look.ensures plan patterns had)
