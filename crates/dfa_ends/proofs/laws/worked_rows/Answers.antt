use Rattle.dfa_ends.proofs.RowProofs.{rows_hold}
use Rattle.dfa_ends.proofs.laws.worked_rows.Goals as goal

pub returns : goal.returns
returns c = rows_hold
