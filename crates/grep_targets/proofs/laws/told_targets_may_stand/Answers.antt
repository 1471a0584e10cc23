use Rattle.grep_targets.proofs.StandLaws.{told-may-stand}
use Rattle.grep_targets.proofs.laws.told_targets_may_stand.Goals as goal

pub returns : goal.returns
returns c = told-may-stand
