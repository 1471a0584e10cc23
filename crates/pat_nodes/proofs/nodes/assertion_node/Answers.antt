use Rattle.std.proofs.Common.{arith}
use Rattle.pat_nodes.proofs.nodes.assertion_node.Goals as goal

pub double_assertion-requires-clause-few : goal.double_assertion-requires-clause-few
double_assertion-requires-clause-few c = omega (
  arith,
  c.requires.few.0,
  c.requires.few.1,
  c.if-len-eq2.false,
  c.len.ensures,
)
