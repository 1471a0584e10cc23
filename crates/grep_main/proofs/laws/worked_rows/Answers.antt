use Rattle.grep_main.proofs.RowProofs.{rows_hold}
use Rattle.grep_main.proofs.laws.worked_rows.Goals as goal

pub returns : goal.returns
returns c = rows_hold
