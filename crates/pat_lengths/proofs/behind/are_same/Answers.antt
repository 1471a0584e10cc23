use Rattle.std.proofs.Common.{None, arith}
use Rattle.pat_lengths.proofs.SpanLemmas.{same_lists}
use Rattle.pat_lengths.proofs.behind.are_same.Goals as goal

pub returns : goal.returns
returns c h = same_lists c.args.some.now c.args.others.now None c.if-some-others.false
    (λ i l. c.loop-k.invariant i (omega (arith, l, c.loop-k-test.false)))
