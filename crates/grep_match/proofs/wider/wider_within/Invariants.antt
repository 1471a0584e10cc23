use Rattle.std.proofs.Common.{◌≡◌, true}
use Rattle.grep_match.proofs.Widening.{FirstMatchNone}
use Rattle.grep_match.proofs.Finding.{FirstMatchSome}
use Rattle.grep_match.proofs.wider.wider_within.Given as goal

abbrev pub invariant-loop-kept : goal.invariant-loop-kept
invariant-loop-kept l = record {
  misses : FirstMatchNone l.patterns.options l.matching l.patterns.kept l.most l.branches.items l.utf l.kept-index;
  finds : l.is_exact ≡ true → FirstMatchSome l.patterns.options l.matching l.patterns.kept l.most l.branches.items
      l.utf l.kept-index;
}
