use Rattle.subst_plan.proofs.Wholes.{first_chosen, second_chosen}
use Rattle.subst_plan.proofs.laws.texts_are_chosen_as_wholes.Goals as goal

pub returns-clause-set : goal.returns-clause-set
returns-clause-set c = first_chosen

pub returns-clause-unset : goal.returns-clause-unset
returns-clause-unset c = second_chosen
