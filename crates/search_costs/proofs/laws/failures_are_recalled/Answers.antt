use Rattle.search_costs.proofs.RecallLaw.{recall_law}
use Rattle.search_costs.proofs.laws.failures_are_recalled.Goals as goal

pub returns : goal.returns
returns c = recall_law
