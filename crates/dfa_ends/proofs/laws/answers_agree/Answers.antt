use Rattle.dfa_ends.proofs.AnswerLaw.{answer_law}
use Rattle.dfa_ends.proofs.laws.answers_agree.Goals as goal

pub returns : goal.returns
returns c = answer_law
