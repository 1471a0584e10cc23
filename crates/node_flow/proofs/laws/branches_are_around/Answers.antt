use Rattle.node_flow.specs.Branches.{branch_child}
use Rattle.node_flow.proofs.Telling.{hang_together}
use Rattle.node_flow.proofs.laws.branches_are_around.Goals as goal

pub returns : goal.returns
returns c = hang_together branch_child
