use Rattle.std.proofs.Common.{◌-◌, ◌∙◌, ◌++◌, List, take, drop, reverse, ap, subst}
use Rattle.std.proofs.lemmas.List.{take_rest}
use Rattle.frame_store.specs.declared.records.Record.{Record}
use Rattle.frame_store.specs.Entry.{entries}
use Rattle.frame_store.specs.Gains.{IsGathered, stretch}
use Rattle.frame_store.proofs.GainLemmas.{stretch_all}
use Rattle.frame_store.proofs.gains.extend.Goals as goal

pub returns-clause-gathered : goal.returns-clause-gathered
returns-clause-gathered c =
    let xs = c.args.records.now in
    subst (IsGathered c.gather_older.new.values)
    (ap (λ (ys : List Record). (entries (reverse ys) ++ stretch c.args.low c.args.high xs) ++ entries
    (reverse (take (c.args.low - c.args.to) (drop c.args.to xs)))) (take_rest xs c.args.high)
    ∙ stretch_all c.args.to c.args.low c.args.high xs c.requires.least c.requires.ordered c.requires.most)
    (c.gather_older.ensures.gathered _ (c.gather_newer.ensures.gathered _ c.requires.gathered))
