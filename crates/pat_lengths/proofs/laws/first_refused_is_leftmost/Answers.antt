use Rattle.pat_lengths.proofs.Placing.{first_refused_is}
use Rattle.pat_lengths.proofs.laws.first_refused_is_leftmost.Goals as goal

pub returns : goal.returns
returns c = first_refused_is
