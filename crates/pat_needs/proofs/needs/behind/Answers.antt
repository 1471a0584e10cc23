use Rattle.std.proofs.Common.{arith}
use Rattle.pat_needs.proofs.needs.behind.Goals as goal

pub returns : goal.returns
returns c = (
  c.in_ok-length.length,
  c.in_ok-far.far.distance,
  (c.in_ok-length.was, (omega arith, c.in_ok-far.was)),
)
