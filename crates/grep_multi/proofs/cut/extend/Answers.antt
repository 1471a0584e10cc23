use Rattle.std.proofs.Common.{arith}
use Rattle.grep_multi.proofs.Cutting.{extends-done, extends-more}
use Rattle.grep_multi.proofs.cut.extend.Goals as goal

pub line-preserved : goal.line-preserved
line-preserved c =
    let cuts = c.cut_line-reach.ensures in
    record {
      rest = λ new more. c.line.invariant.rest new
          (extends-more c.args.kind c.args.text.now c.args.to c.line.reach c.cut_line-reach.result new
          c.line-test.true cuts more);
      within = cuts.within;
      few = omega (arith, cuts.many, cuts.some, c.line.invariant.few);
    }

pub returns : goal.returns
returns c =
    c.line.invariant.rest c.line.reach
    (extends-done c.args.kind c.args.text.now c.args.to c.line.reach c.line-test.false c.line.invariant.within
    c.line.invariant.few)
