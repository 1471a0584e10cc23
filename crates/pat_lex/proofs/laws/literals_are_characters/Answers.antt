use Rattle.pat_lex.proofs.LawProofs.{literals_are_characters}
use Rattle.pat_lex.proofs.laws.literals_are_characters.Goals as goal

pub returns : goal.returns
returns c = literals_are_characters
