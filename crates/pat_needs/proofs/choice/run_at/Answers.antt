use Rattle.std.proofs.Common.{◌≡◌, ◌<◌, ◌-◌, None, arith, drop, length, map, slice_index_or, subst}
use Rattle.pat_tree.specs.Nested.{row}
use Rattle.pat_needs.specs.NeedTables.{AreNeeds, IsNeed, IsRun}
use Rattle.pat_needs.proofs.NeedLemmas.{all_behind, needs_back, need_read}
use Rattle.pat_needs.proofs.choice.run_at.Goals as goal

pub loop-i-preserved : goal.loop-i-preserved
loop-i-preserved c =
    let xs = c.args.parts.now in
    let needs = c.args.needs.now in
    let i = c.loop-i.i in
    let old = c.loop-i.invariant in
    let some : 0 < i = omega (arith, c.loop-i-test.true) in
    let below : i - 1 < length xs = omega (arith, old.within, some) in
    let first = c.index-needs-parts.result in
    record {
      within = omega (arith, old.within);
      from = omega (arith, c.loop-i-test.true);
      is = λ may utf anywhere of.
          needs_back may utf anywhere of needs xs i first (λ ts. IsRun may utf ts c.loop-i.run)
          (λ ts. IsRun may utf ts c.run_from-run.result) some old.within
          (need_read needs xs (i - 1) first below c.requires.below c.index-needs-parts.is)
          (old.is may utf anywhere of)
          (λ t ts need had. c.run_from-run.ensures may utf anywhere t ts need had);
    }

pub returns : goal.returns
returns c may utf anywhere of kept =
    let xs = c.args.parts.now in
    let needs = c.args.needs.now in
    let done : c.loop-i.i ≡ c.args.at = omega (arith, c.loop-i.invariant.from, c.loop-i-test.false) in
    subst (λ i. AreNeeds may utf anywhere of needs (drop i xs) → IsRun may utf (row (map of (drop i xs))) c.loop-i.run)
    done (c.loop-i.invariant.is may utf anywhere of)
    (all_behind (λ k. IsNeed may utf anywhere (of k) (slice_index_or needs k None)) xs c.args.at kept)
