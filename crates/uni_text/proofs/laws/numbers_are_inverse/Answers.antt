use Rattle.uni_text.proofs.NumberLemmas.{prop_by_number-prop_number, prop_number_from}
use Rattle.uni_text.proofs.laws.numbers_are_inverse.Goals as goal

pub returns : goal.returns
returns c = record { back = prop_by_number-prop_number; forth = prop_number_from }
