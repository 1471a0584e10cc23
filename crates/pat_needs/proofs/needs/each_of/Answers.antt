use Rattle.std.proofs.Common.{arith, ◌≡◌, ◌<◌, ◌-◌, length}
use Rattle.pat_needs.specs.NeedTables.{AreAllNeeds}
use Rattle.pat_needs.proofs.NeedLemmas.{needs_back, need_read}
use Rattle.pat_needs.proofs.needs.each_of.Goals as goal

pub loop-i-preserved : goal.loop-i-preserved
loop-i-preserved c =
    let xs = c.args.branches.now in
    let i = c.loop-i.i in
    let below : i - 1 < length xs = omega (arith, c.loop-i.invariant.within, c.loop-i-test.true) in
    record {
      within = omega (arith, c.loop-i.invariant.within);
      is = λ may utf anywhere of.
          needs_back may utf anywhere of c.args.needs.now xs i c.index-needs-branches.result
          (λ ts. AreAllNeeds may utf anywhere ts c.loop-i.whole)
          (λ ts. AreAllNeeds may utf anywhere ts c.joined-whole.result) c.loop-i-test.true c.loop-i.invariant.within
          (need_read c.args.needs.now xs (i - 1) c.index-needs-branches.result below c.requires
          c.index-needs-branches.is)
          (c.loop-i.invariant.is may utf anywhere of) (c.joined-whole.ensures may utf anywhere);
    }

pub returns : goal.returns
returns c may utf anywhere of kept =
    let done : c.loop-i.i ≡ 0 = omega (arith, c.loop-i-test.false) in
    c.if_useful.ensures may utf anywhere _ ((rw done at (c.loop-i.invariant.is may utf anywhere of)) kept)
