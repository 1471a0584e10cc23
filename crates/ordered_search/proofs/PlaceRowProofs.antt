-- The worked rows, by computation.
use Rattle.std.proofs.Common.{◌≡◌, refl}
use Rattle.std.specs.Str.{chars}
use Rattle.byte_lanes.specs.Newlines.{stands}
use Rattle.pat_lengths.specs.Nodes.{nodes}
use Rattle.pat_lengths.specs.Lengths.{lengths, by_calls, lead_to, behind}
use Rattle.match_items.specs.Items.{places_back, run_places, run_reaches}
use Rattle.ordered_search.specs.Stream.{first_state, exhausted, reached, state, step, ends, ◌▸◌, ◌or_else◌, each}
use Rattle.ordered_search.specs.Stream.{decide, catch, changes}
use Rattle.ordered_search.specs.Setting.{held, hold, reach, reach_if}
use Rattle.ordered_search.specs.Tests.{run_one, run_break, run_ref, run_anchor, offers, greedy, reluctant, lazy_run}
use Rattle.ordered_search.specs.Tests.{run_many, move_to}
use Rattle.ordered_search.specs.Parts.{in_order, choices, branches, run_group, one_try, tries, tries_within}
use Rattle.ordered_search.specs.Parts.{run_behind, run_atomic, run_look, asserts, tests, follow, run_callout, named}
use Rattle.ordered_search.specs.Parts.{backs, run_verb, turn, run_repeat, returns, run_tree, run_call}
use Rattle.ordered_search.specs.Run.{level, run}
use Rattle.ordered_search.specs.PlaceAnswer.{walk}
use Rattle.ordered_search.specs.PlaceRows.{Answered, either_letter, match_limits, frame_limits, WorkedRows}

computing : Unit {0}
unfolding chars stands nodes lengths by_calls lead_to behind places_back run_places run_reaches ◌or_else◌ each decide
    catch changes held hold reach reach_if run_one run_break run_ref run_anchor offers greedy reluctant lazy_run
    run_many in_order choices branches run_group one_try tries tries_within run_behind run_atomic run_look asserts
    tests follow run_callout named backs run_verb turn run_repeat returns run_tree run_call level run walk
computing = tt

match_limits_hold : Answered match_limits
unfolding computing
match_limits_hold =
    (refl, (refl, (refl, (refl, (refl, (refl, (refl, (refl, (refl, (refl, (refl, (refl, (refl, tt)))))))))))))

frame_limits_hold : Answered frame_limits
unfolding computing
frame_limits_hold = (refl, (refl, (refl, (refl, (refl, (refl, tt))))))

stream_holds : run either_letter 1 either_letter.whole (first_state 0 0) ≡ step ▸
    (step ▸ (state reached (move_to 1 (first_state 0 0)) ▸ ends exhausted))
unfolding computing
stream_holds = refl

pub rows_hold : WorkedRows
rows_hold = record {
  stream = stream_holds;
  match_limits_answered = match_limits_hold;
  frame_limits_answered = frame_limits_hold;
}
