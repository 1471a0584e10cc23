use Rattle.search_costs.proofs.CostRows.{rows_hold}
use Rattle.search_costs.proofs.laws.worked_rows.Goals as goal

pub returns : goal.returns
returns c = rows_hold
