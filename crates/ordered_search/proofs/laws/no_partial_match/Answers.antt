use Rattle.ordered_search.proofs.NoPartial.{no_partial}
use Rattle.ordered_search.proofs.laws.no_partial_match.Goals as goal

pub returns : goal.returns
returns c = no_partial
