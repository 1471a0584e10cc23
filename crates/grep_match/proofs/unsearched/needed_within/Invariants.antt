use Rattle.grep_match.proofs.Lacking.{FirstFindNone}
use Rattle.grep_match.proofs.unsearched.needed_within.Given as goal

abbrev pub invariant-loop-kept : goal.invariant-loop-kept
invariant-loop-kept l =
    FirstFindNone l.patterns.options l.matching l.patterns.kept
    (record { text = l.text; most = l.most; utf = l.utf }) l.kept-index
