use Rattle.ordered_search.proofs.FollowLaw.{later_places}
use Rattle.ordered_search.proofs.laws.later_places_fail.Goals as goal

pub returns : goal.returns
returns c = later_places
