use Rattle.ordered_search.proofs.MatchRowProofs as over_places
use Rattle.ordered_search.proofs.PlaceRowProofs as at_place
use Rattle.ordered_search.proofs.laws.worked_rows.Goals as goal

pub returns-clause-at_place : goal.returns-clause-at_place
returns-clause-at_place c = at_place.rows_hold

pub returns-clause-over_places : goal.returns-clause-over_places
returns-clause-over_places c = over_places.rows_hold
