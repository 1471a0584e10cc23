use Rattle.std.proofs.Common.{arith}
use Rattle.std.proofs.lemmas.Bool.Decides.{nat_tests}
use Rattle.std.proofs.lemmas.Grind.{common_steps}
use Rattle.token_parts.proofs.Strings.{string_more}
use Rattle.token_parts.proofs.callouts.string_end.Goals as goal

pub loop-i-preserved-then-text-i : goal.loop-i-preserved-then-text-i
loop-i-preserved-then-text-i c =
    let step = string_more c.args.text.now c.args.close c.loop-i.i (omega arith) in
    (omega arith, omega arith, grind (arith, nat_tests, common_steps))

pub loop-i-preserved : goal.loop-i-preserved
loop-i-preserved c =
    let step = string_more c.args.text.now c.args.close c.loop-i.i (omega arith) in
    (omega arith, omega arith, grind (arith, nat_tests, common_steps))

pub returns-else-stands-clause-value : goal.returns-else-stands-clause-value
returns-else-stands-clause-value c =
    let step = string_more c.args.text.now c.args.close c.loop-i.i (omega arith) in
    grind (arith, nat_tests, common_steps)
