use Rattle.test_run.proofs.RowProofs.{rows_hold}
use Rattle.test_run.proofs.laws.worked_rows.Goals as goal

pub returns : goal.returns
returns c = rows_hold
