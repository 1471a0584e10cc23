use Rattle.uni_text.proofs.FoldLemmas.{fold_twice, fold_others}
use Rattle.uni_text.proofs.laws.foldings_are_fixed.Goals as goal

pub returns : goal.returns
returns c = record { twice = fold_twice; others = fold_others }
