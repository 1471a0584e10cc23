use Rattle.std.proofs.Common.{◌∙◌, ◌-◌, Some, ap}
use Rattle.pat_needs.proofs.NeedLemmas.{copied_from}
use Rattle.pat_needs.proofs.EarlyLemmas.{early_run}
use Rattle.pat_needs.proofs.lacking.early_run.Goals as goal

pub returns-clause-takes : goal.returns-clause-takes
returns-clause-takes c may utf t ts long run =
    let wanted = c.in_ok-wanted.wanted in
    early_run may utf t ts c.args.run.now wanted c.args.count c.saturating_sub-behind.result long
    (c.saturating_sub-behind.ensures ∙ ap (λ n. c.args.count - n) c.count.ensures) run
    (copied_from c.args.run.now (Some wanted)
    c.in_ok-wanted.ensures.some c.in_ok-wanted.ensures.none)
