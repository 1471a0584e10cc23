use Rattle.std.proofs.Common.{arith}
use Rattle.grep_targets.proofs.Naming.{one_more}
use Rattle.grep_targets.proofs.paths.name_of.Goals as goal

pub byte-preserved : goal.byte-preserved
byte-preserved c = record {
  within = (let h = c.byte.invariant.within in omega (arith, h));
  name = one_more c.args.path.now c.byte.begin c.byte-test.true c.byte.invariant.within c.if-path-begin-ne47.true
      c.byte.invariant.name;
}
