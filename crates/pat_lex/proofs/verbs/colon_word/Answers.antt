use Rattle.std.proofs.Common.{arith, refl}
use Rattle.pat_lex.proofs.verbs.colon_word.Goals as goal

pub returns-in-Some-group_word-clause-sound : goal.returns-in-Some-group_word-clause-sound
returns-in-Some-group_word-clause-sound c =
    (refl, omega arith, omega arith, c.in-Some-group_word.ensures.well c.args.text.now)
