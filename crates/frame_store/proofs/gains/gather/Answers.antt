use Rattle.std.proofs.Common.{◌∙◌, List, length, drop, reverse, arith, sym, subst}
use Rattle.std.proofs.lemmas.List.{take_at}
use Rattle.frame_store.specs.Entry.{Entry, entries}
use Rattle.frame_store.specs.Gains.{Values, IsGathered, stretch}
use Rattle.frame_store.proofs.GainLemmas.{stretch_end}
use Rattle.frame_store.proofs.gains.gather.Goals as goal

pub returns-clause-of : goal.returns-clause-of
returns-clause-of c =
    let xs = c.args.records.now in (
      omega arith,
      λ some. (
        c.requires.within,
        subst (λ (vs : Values). IsGathered vs (stretch c.args.to (length xs) xs))
            (sym (take_at c.extend.new.values _ _ (c.extend.ensures.count ∙ c.as_mut_slice.ensures.len)))
            (subst (λ (es : List Entry). IsGathered c.extend.new.values es)
            (stretch_end c.args.to (length xs) xs (omega arith)) c.extend.ensures.gathered),
      ),
    )

pub returns-clause-gathered : goal.returns-clause-gathered
returns-clause-gathered c =
    subst (λ (vs : Values). IsGathered vs (entries (reverse (drop c.args.to c.args.records.now))))
    (sym (take_at c.extend.new.values _ _ (c.extend.ensures.count ∙ c.as_mut_slice.ensures.len)))
    c.extend.ensures.gathered
