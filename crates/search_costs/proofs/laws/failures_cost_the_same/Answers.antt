use Rattle.search_costs.proofs.CostLaw.{cost_law}
use Rattle.search_costs.proofs.laws.failures_cost_the_same.Goals as goal

pub returns : goal.returns
returns c = cost_law
