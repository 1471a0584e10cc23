use Rattle.std.proofs.Common.{arith}
use Rattle.std.proofs.lemmas.Bool.Decides.{nat_tests}
use Rattle.pat_shape.proofs.Ranges.{past_folds, past_letters}
use Rattle.pat_shape.proofs.pieces.past_ascii.Goals as goal

pub returns-in-75 : goal.returns-in-75
returns-in-75 c b high e = past_folds c.args.c b c.requires high e

pub returns-in_default : goal.returns-in_default
returns-in_default c b high e = let known = past_letters c.args.c b c.requires high e in let none = c.in_default in
    absurd (grind (arith, nat_tests))
