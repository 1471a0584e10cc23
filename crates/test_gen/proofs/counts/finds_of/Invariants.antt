use Rattle.std.proofs.Common.{◌≤◌, is_some, unwrap_or, cond}
use Rattle.test_gen.specs.Counts.{pattern_in, first_length}
use Rattle.test_gen.proofs.Making.{IsSummed}
use Rattle.test_gen.proofs.counts.finds_of.Given as goal

abbrev pub invariant-loop-line : goal.invariant-loop-line
invariant-loop-line l = record {
  lines : IsSummed (λ line. cond (is_some (first_length (pattern_in l.code) line)) 1 0) l._line l.generator.x l.matched;
  few : l.matched ≤ l._line;
  characters : IsSummed (λ line. unwrap_or (first_length (pattern_in l.code) line) 0) l._line l.generator.x
      l.characters;
}
