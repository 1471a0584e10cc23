use Rattle.pat_check.proofs.RowProofs.{rows_hold}
use Rattle.pat_check.proofs.laws.worked_rows.Goals as goal

pub returns : goal.returns
returns c = rows_hold
