use Rattle.node_flow.proofs.TreeLaws.{followers_hang_together}
use Rattle.node_flow.proofs.laws.followers_hang_together.Goals as goal

pub returns : goal.returns
returns c = followers_hang_together
