use Rattle.std.proofs.Common.{arith}
use Rattle.byte_lanes.proofs.lemmas.DigitLemmas.{one_more, too_much, all_read}
use Rattle.byte_lanes.proofs.digits.number.Goals as goal

pub returns-in-None : goal.returns-in-None
returns-in-None c = too_much c.args.radix c.args.digits.now c.loop-digit.digit-index c.loop-digit.number
    c.loop-digit.invariant.0 c.loop-digit-test.true c.requires.some c.in-None.ensures

pub loop-digit-preserved : goal.loop-digit-preserved
loop-digit-preserved c = one_more c.args.radix c.args.digits.now c.loop-digit.digit-index c.loop-digit.number
    c.loop-digit.invariant.0 c.loop-digit-test.true c.in-Some.longer c.in-Some.ensures

pub returns : goal.returns
returns c = all_read c.args.radix c.args.digits.now c.loop-digit.digit-index c.loop-digit.number
    c.loop-digit.invariant.0 (omega arith) (omega arith)
