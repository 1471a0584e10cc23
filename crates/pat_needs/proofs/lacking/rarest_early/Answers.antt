use Rattle.std.proofs.Common.{◌≡◌, ◌-◌, refl, sym, subst, get_or, length, true}
use Rattle.pat_needs.specs.NeedTables.{IsNeed}
use Rattle.pat_needs.proofs.ChoiceLemmas.{early_from, run_from_here}
use Rattle.pat_needs.proofs.NeedLemmas.{need_read}
use Rattle.pat_needs.proofs.lacking.rarest_early.Goals as goal

pub returns-then-choice-clause-takes : goal.returns-then-choice-clause-takes
returns-then-choice-clause-takes c may utf of kept =
    let xs = c.args.parts.now in
    let at = c.in_ok-choice.choice.at in
    let l = c.in_ok-choice.ensures.0 in
    early_from may utf of xs at l (length xs - at) c.early_run.result refl
    (λ long. c.early_run.ensures.takes may utf _ _ long
    (run_from_here may utf of xs at l c.run_at.result (c.run_at.ensures may utf true of kept)))

pub returns-clause-takes : goal.returns-clause-takes
returns-clause-takes c may utf of kept =
    let xs = c.args.parts.now in
    let needs = c.args.needs.now in
    let at = c.in_ok-choice.choice.at in
    let l = c.in_ok-choice.ensures.0 in
    let first = c.index-needs-parts.result in
    early_from may utf of xs at l (length xs - at) c.early_part.result refl
    (λ long. c.early_part.ensures.takes may utf _ _ long
    (subst (IsNeed may utf true (of (get_or xs at 0)))
    (sym (need_read needs xs at first l c.requires c.index-needs-parts.is)) (kept at 0 l)))
