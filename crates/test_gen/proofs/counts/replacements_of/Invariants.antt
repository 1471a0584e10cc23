use Rattle.std.proofs.Common.{◌≤◌, ◌*◌, List}
use Rattle.pat_tree.specs.declared.names.NameEntry.{NameEntry}
use Rattle.test_gen.specs.Counts.{pattern_in, IsNamed, replacements_in}
use Rattle.test_gen.proofs.Making.{IsSummed}
use Rattle.test_gen.proofs.counts.replacements_of.Given as goal

abbrev pub invariant-loop-line : goal.invariant-loop-line
invariant-loop-line l = record {
  sum : (names : List NameEntry) → IsNamed l.code names
      → IsSummed (replacements_in (pattern_in l.code) names l.replacement) l._line l.generator.x l.count;
  within : l.count ≤ 18446744073709551616 * l._line;
}
