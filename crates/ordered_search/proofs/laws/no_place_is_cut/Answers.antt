use Rattle.ordered_search.proofs.WalkLaw.{no_cut}
use Rattle.ordered_search.proofs.laws.no_place_is_cut.Goals as goal

pub returns : goal.returns
returns c = no_cut
