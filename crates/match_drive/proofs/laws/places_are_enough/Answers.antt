use Rattle.match_drive.proofs.Steps.{enough_places}
use Rattle.match_drive.proofs.laws.places_are_enough.Goals as goal

pub returns : goal.returns
returns c = enough_places
