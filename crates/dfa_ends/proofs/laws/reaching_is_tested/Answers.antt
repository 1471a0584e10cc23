use Rattle.dfa_ends.proofs.ReachLaw.{reach_law}
use Rattle.dfa_ends.proofs.laws.reaching_is_tested.Goals as goal

pub returns : goal.returns
returns c = reach_law
