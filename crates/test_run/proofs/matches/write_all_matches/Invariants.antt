use Rattle.std.proofs.Common.{}
use Rattle.pat_tree.specs.Pattern.{pattern_of}
use Rattle.test_run.proofs.Listing.{IsOn}
use Rattle.test_run.proofs.matches.write_all_matches.Given as goal

abbrev pub invariant-loop-turn : goal.invariant-loop-turn
invariant-loop-turn g l =
    IsOn l.tested.pattern (pattern_of l.tested.code.tree) l.how l.subject l.how.start l._turn l.at l.again l.is_shown
    (g.O.Sink.tells l.initial.out) (g.O.Sink.tells l.out)
