use Rattle.std.proofs.Common.{Some}
use Rattle.pat_needs.proofs.NeedLemmas.{copied_from}
use Rattle.pat_needs.proofs.EarlyLemmas.{early_part}
use Rattle.pat_needs.proofs.lacking.early_part.Goals as goal

pub returns-clause-takes : goal.returns-clause-takes
returns-clause-takes c may utf t ts long need =
    early_part may utf t ts c.args.need.now c.in_ok-copy_of.field-0 c.args.count long need
    (copied_from c.args.need.now (Some c.in_ok-copy_of.field-0)
    c.in_ok-copy_of.ensures.some c.in_ok-copy_of.ensures.none)
