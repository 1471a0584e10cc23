use Rattle.std.proofs.Common.{arith}
use Rattle.pat_lex.proofs.classes.class_escape.Goals as goal

pub returns-in-Some-everywhere-clause-sound : goal.returns-in-Some-everywhere-clause-sound
returns-in-Some-everywhere-clause-sound c =
    let found = c.in-Some-everywhere.ensures in
    (found.inside, omega arith, omega (arith, c.in-Some.ensures.within), found.well c.args.text.now)
