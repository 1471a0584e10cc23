use Rattle.pat_needs.proofs.ChoiceLemmas.{run_some, some_at}
use Rattle.pat_needs.proofs.NeedLemmas.{need_read}
use Rattle.pat_needs.proofs.choice.text_of.Goals as goal

pub returns-then-choice : goal.returns-then-choice
returns-then-choice c may utf anywhere of kept =
    run_some may utf anywhere of c.args.needs.now c.args.parts.now c.args.choice.at c.requires.at c.run_at-run.result
    c.copy_of.result (c.run_at-run.ensures may utf anywhere of kept) c.copy_of.ensures.item c.copy_of.ensures.some
    c.copy_of.ensures.none

pub returns : goal.returns
returns c may utf anywhere of kept =
    let first = c.index-needs-parts.result in
    some_at may utf anywhere of c.args.needs.now c.args.parts.now c.args.choice.at c.requires.at first
    c.copy_of-2.result
    (need_read c.args.needs.now c.args.parts.now c.args.choice.at first c.requires.at c.requires.below
    c.index-needs-parts.is) kept c.copy_of-2.ensures.item c.copy_of-2.ensures.some c.copy_of-2.ensures.none
