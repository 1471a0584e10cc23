use Rattle.dfa_drive.proofs.Enough.{enough_places}
use Rattle.dfa_drive.proofs.laws.places_are_enough.Goals as goal

pub returns : goal.returns
returns c g begun shortest more = enough_places g shortest begun more
