use Rattle.dfa_paths.proofs.Fragments.{fragment_law}
use Rattle.dfa_paths.proofs.laws.fragments_mean.Goals as goal

pub returns : goal.returns
returns c = fragment_law
