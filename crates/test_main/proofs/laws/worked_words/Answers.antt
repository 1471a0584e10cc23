use Rattle.test_main.proofs.Ending.{words-hold}
use Rattle.test_main.proofs.laws.worked_words.Goals as goal

pub returns : goal.returns
returns c = words-hold
