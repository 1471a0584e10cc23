use Rattle.dfa_ends.proofs.ListLaw.{list_law}
use Rattle.dfa_ends.proofs.laws.ends_are_listed.Goals as goal

pub returns : goal.returns
returns c = list_law
