use Rattle.std.proofs.Common.{arith}
use Rattle.std.proofs.lemmas.Bool.Decides.{nat_tests}
use Rattle.std.proofs.lemmas.Grind.{common_steps}
use Rattle.pat_lex.proofs.Marks.{mark_more}
use Rattle.pat_lex.proofs.classes.mark_again.Goals as goal

pub loop-i-preserved : goal.loop-i-preserved
loop-i-preserved c =
    let step = mark_more c.args.text.now c.args.mark c.loop-i.i (omega arith) in
    (omega arith, omega arith, grind (arith, nat_tests, common_steps))
