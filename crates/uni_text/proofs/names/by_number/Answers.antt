use Rattle.uni_text.specs.Names.{names}
use Rattle.uni_text.proofs.names.by_number.Goals as goal

-- the rows of the code are the names
pub returns : goal.returns
unfolding names
returns c = c.row_at.ensures
