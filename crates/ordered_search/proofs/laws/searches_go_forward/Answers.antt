use Rattle.ordered_search.proofs.ForwardLaw.{forward_law}
use Rattle.ordered_search.proofs.laws.searches_go_forward.Goals as goal

pub returns : goal.returns
returns c = forward_law
