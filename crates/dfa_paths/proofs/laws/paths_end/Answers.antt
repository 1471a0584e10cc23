use Rattle.dfa_paths.proofs.Fragments.{path_law}
use Rattle.dfa_paths.proofs.laws.paths_end.Goals as goal

pub returns : goal.returns
returns c = path_law
