use Rattle.std.proofs.Common.{arith, ◌<◌, ◌-◌, length}
use Rattle.pat_check.proofs.LeadLemmas.{branches_back, read_at}
use Rattle.pat_check.proofs.starts.one_of.Goals as goal

pub loop-i-preserved : goal.loop-i-preserved
loop-i-preserved c =
    let xs = c.args.branches.now in
    let i = c.loop-i.i in
    let within : i - 1 < length xs = omega (arith, c.loop-i.invariant.0, c.loop-i-test.true) in (
      omega (arith, c.loop-i.invariant.0),
      λ of. branches_back c.args.starts.now of xs i c.index-starts-branches.result c.loop-i.whole
          c.either-whole.result c.loop-i-test.true c.loop-i.invariant.0
          (read_at c.args.starts.now xs (i - 1) c.index-starts-branches.result within c.requires
          c.index-starts-branches.is)
          (c.loop-i.invariant.1 of) c.either-whole.ensures,
    )
