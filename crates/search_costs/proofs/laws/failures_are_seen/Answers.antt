use Rattle.search_costs.proofs.SeenLaw.{seen_law}
use Rattle.search_costs.proofs.laws.failures_are_seen.Goals as goal

pub returns : goal.returns
returns c = seen_law
