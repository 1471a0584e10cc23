use Rattle.std.proofs.Common.{}
use Rattle.test_gen.specs.Counts.{pattern_in, ends_in}
use Rattle.test_gen.proofs.Making.{IsSummed}
use Rattle.test_gen.proofs.counts.ends_of.Given as goal

abbrev pub invariant-loop-line : goal.invariant-loop-line
invariant-loop-line g l = IsSummed (ends_in (pattern_in l.code)) l._line l.generator.x l.count
