use Rattle.ordered_search.proofs.CutLaw.{cut_law}
use Rattle.ordered_search.proofs.laws.cut_comes_late.Goals as goal

pub returns : goal.returns
returns c = cut_law
