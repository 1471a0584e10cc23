use Rattle.uni_text.specs.Names.{names}
use Rattle.uni_text.proofs.names.by_name.Goals as goal

-- the rows of the code are the names
pub returns : goal.returns
unfolding names
returns c = c.find_name.ensures
