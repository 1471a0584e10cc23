use Rattle.pat_lex.proofs.LawProofs.{quoted_bytes}
use Rattle.pat_lex.proofs.laws.quoted_bytes_stand_for_themselves.Goals as goal

pub returns : goal.returns
returns c = quoted_bytes
