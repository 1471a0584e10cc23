use Rattle.tool_io.proofs.TargetLaws.{told-one}
use Rattle.tool_io.proofs.laws.told_targets_stand_for_one_list.Goals as goal

pub returns : goal.returns
returns c = told-one
