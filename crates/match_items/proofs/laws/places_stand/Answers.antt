use Rattle.match_items.proofs.TextGround.{places_stand}
use Rattle.match_items.proofs.laws.places_stand.Goals as goal

pub returns : goal.returns
returns c = places_stand
