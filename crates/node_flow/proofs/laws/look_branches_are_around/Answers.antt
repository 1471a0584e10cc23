use Rattle.node_flow.specs.LookBranches.{look_branch_child}
use Rattle.node_flow.proofs.Telling.{hang_together}
use Rattle.node_flow.proofs.laws.look_branches_are_around.Goals as goal

pub returns : goal.returns
returns c = hang_together look_branch_child
