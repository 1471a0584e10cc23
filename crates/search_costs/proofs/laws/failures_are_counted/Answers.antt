use Rattle.search_costs.proofs.CountLaw.{count_law}
use Rattle.search_costs.proofs.laws.failures_are_counted.Goals as goal

pub returns : goal.returns
returns c = count_law
