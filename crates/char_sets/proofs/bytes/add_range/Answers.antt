use Rattle.std.proofs.Common.{◌||◌, false, get_or, ap, ◌∙◌, arith}
use Rattle.char_sets.proofs.ByteLemmas.{range_done}
use Rattle.char_sets.proofs.bytes.add_range.Goals as goal

pub returns : goal.returns
returns c k =
    let inv = c.loop-b.invariant in
    inv.bytes k
    ∙ ap (λ x. get_or c.args.bytes.now k false || x)
    (range_done c.args.first c.args.last c.loop-b.b k inv.from inv.within
    (omega (arith, c.loop-b-test.false, c.loop-b.auto.b-end)))
