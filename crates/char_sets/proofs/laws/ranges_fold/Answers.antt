use Rattle.char_sets.proofs.FoldLemmas.{ranges_fold_alike}
use Rattle.char_sets.proofs.laws.ranges_fold.Goals as goal

pub returns : goal.returns
returns c = ranges_fold_alike
