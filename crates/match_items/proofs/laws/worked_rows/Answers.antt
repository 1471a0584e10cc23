use Rattle.match_items.proofs.RowProofs.{rows_hold}
use Rattle.match_items.proofs.laws.worked_rows.Goals as goal

pub returns : goal.returns
returns c = rows_hold
