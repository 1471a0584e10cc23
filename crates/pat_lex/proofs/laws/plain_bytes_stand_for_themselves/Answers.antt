use Rattle.pat_lex.proofs.LawProofs.{plain_bytes}
use Rattle.pat_lex.proofs.laws.plain_bytes_stand_for_themselves.Goals as goal

pub returns : goal.returns
returns c = plain_bytes
