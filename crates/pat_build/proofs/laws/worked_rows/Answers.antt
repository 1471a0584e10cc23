use Rattle.pat_build.proofs.RowProofs.{rows_hold}
use Rattle.pat_build.proofs.laws.worked_rows.Goals as goal

pub returns : goal.returns
returns c = rows_hold
