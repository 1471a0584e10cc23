use Rattle.dfa_ends.proofs.EndsLaw.{ends_law}
use Rattle.dfa_ends.proofs.laws.ends_agree.Goals as goal

pub returns : goal.returns
returns c = ends_law
