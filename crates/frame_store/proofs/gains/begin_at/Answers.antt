use Rattle.std.proofs.Common.{length, arith, rules, sym, subst}
use Rattle.frame_store.specs.Gains.{Values, IsGathered, stretch}
use Rattle.frame_store.proofs.GainLemmas.{gathered_begin}
use Rattle.frame_store.proofs.gains.begin_at.Goals as goal

pub returns-clause-begun : goal.returns-clause-begun
returns-clause-begun c =
    let xs = c.args.records.now in
    let unset = c.fill.ensures.items (λ y e. search rules) in
    record {
      least = c.requires.within;
      ordered = omega arith;
      most = omega arith;
      gathered = subst (λ (vs : Values). IsGathered vs (stretch (length xs) (length xs) xs)) (sym unset)
          (gathered_begin xs _);
    }
