use Rattle.search_costs.proofs.RunLaw.{run_law}
use Rattle.search_costs.proofs.laws.runs_share_failures.Goals as goal

pub returns : goal.returns
returns c = run_law
