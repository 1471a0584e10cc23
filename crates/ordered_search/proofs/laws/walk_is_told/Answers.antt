use Rattle.ordered_search.proofs.WalkLaw.{walk_law}
use Rattle.ordered_search.proofs.laws.walk_is_told.Goals as goal

pub returns : goal.returns
returns c = walk_law
