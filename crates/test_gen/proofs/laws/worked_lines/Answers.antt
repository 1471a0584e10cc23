use Rattle.test_gen.proofs.Making.{worked-hold}
use Rattle.test_gen.proofs.laws.worked_lines.Goals as goal

pub returns : goal.returns
returns c = worked-hold
