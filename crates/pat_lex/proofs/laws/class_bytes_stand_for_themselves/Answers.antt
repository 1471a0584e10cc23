use Rattle.pat_lex.proofs.LawProofs.{class_bytes}
use Rattle.pat_lex.proofs.laws.class_bytes_stand_for_themselves.Goals as goal

pub returns : goal.returns
returns c = class_bytes
