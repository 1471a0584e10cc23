use Rattle.test_script.proofs.LineLaw.{lines_joined}
use Rattle.test_script.proofs.laws.lines_of_a_pattern_are_joined.Goals as goal

pub returns : goal.returns
returns c = lines_joined
