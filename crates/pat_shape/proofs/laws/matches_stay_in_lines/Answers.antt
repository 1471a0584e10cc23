use Rattle.pat_shape.proofs.Inside.{inside_law}
use Rattle.pat_shape.proofs.laws.matches_stay_in_lines.Goals as goal

pub returns : goal.returns
returns c = inside_law
