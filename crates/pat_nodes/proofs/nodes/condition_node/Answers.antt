use Rattle.std.proofs.Common.{arith}
use Rattle.pat_nodes.proofs.nodes.condition_node.Goals as goal

pub double_condition-requires-clause-few : goal.double_condition-requires-clause-few
double_condition-requires-clause-few c = omega (
  arith,
  c.requires.few.0,
  c.requires.few.1,
  c.if-len-eq1.false,
  c.len.ensures,
)
