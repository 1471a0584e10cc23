use Rattle.std.proofs.Common.{arith, refl}
use Rattle.pat_lex.proofs.groups.special.Goals as goal

pub returns-in-Some-clause-sound : goal.returns-in-Some-clause-sound
returns-in-Some-clause-sound c = (refl, omega arith, omega arith, c.in-Some.ensures.well c.args.text.now)
