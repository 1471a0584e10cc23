use Rattle.search_starts.proofs.StartLaw.{start_law}
use Rattle.search_starts.proofs.laws.starts_are_the_same.Goals as goal

pub returns : goal.returns
returns c = start_law
