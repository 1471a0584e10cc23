use Rattle.subst_plan.proofs.Wholes.{group_chosen, default_chosen}
use Rattle.subst_plan.proofs.laws.defaults_are_chosen_as_wholes.Goals as goal

pub returns-clause-set : goal.returns-clause-set
returns-clause-set c = group_chosen

pub returns-clause-unset : goal.returns-clause-unset
returns-clause-unset c = default_chosen
