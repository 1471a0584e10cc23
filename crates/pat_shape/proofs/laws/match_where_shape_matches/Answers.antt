use Rattle.pat_shape.proofs.FoundExact.{found_law}
use Rattle.pat_shape.proofs.laws.match_where_shape_matches.Goals as goal

pub returns : goal.returns
returns c = found_law
