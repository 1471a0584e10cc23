use Rattle.pat_grammar.proofs.Depths.{read_bounded}
use Rattle.pat_grammar.proofs.laws.readings_are_bounded.Goals as goal

pub returns : goal.returns
returns c = read_bounded
