use Rattle.std.proofs.Common.{arith, ◌<◌, ◌-◌, length}
use Rattle.pat_check.proofs.LeadLemmas.{parts_back, read_at}
use Rattle.pat_check.proofs.starts.in_turn.Goals as goal

pub loop-i-preserved : goal.loop-i-preserved
loop-i-preserved c =
    let xs = c.args.parts.now in
    let i = c.loop-i.i in
    let within : i - 1 < length xs = omega (arith, c.loop-i.invariant.0, c.loop-i-test.true) in (
      omega (arith, c.loop-i.invariant.0),
      λ of. parts_back c.args.starts.now of xs i c.index-starts-parts.result c.loop-i.whole c.followed-whole.result
          c.loop-i-test.true c.loop-i.invariant.0
          (read_at c.args.starts.now xs (i - 1) c.index-starts-parts.result within c.requires c.index-starts-parts.is)
          (c.loop-i.invariant.1 of) c.followed-whole.ensures,
    )
