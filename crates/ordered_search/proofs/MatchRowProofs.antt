-- The worked rows, by computation.
use Rattle.std.proofs.Common.{refl}
use Rattle.std.specs.Str.{chars}
use Rattle.std.specs.Char.{encode_utf8}
use Rattle.pat_tree.specs.Nested.{trees_after, trees}
use Rattle.pat_tree.specs.Sound.{group_numbers}
use Rattle.byte_lanes.specs.Newlines.{stands}
use Rattle.byte_lanes.specs.Places.{least_of}
use Rattle.pat_lengths.specs.Nodes.{nodes}
use Rattle.pat_lengths.specs.Lengths.{lengths, by_calls, lead_to, behind}
use Rattle.pat_check.specs.Lead.{lead}
use Rattle.match_items.specs.Items.{places_back, run_places, run_reaches}
use Rattle.ordered_search.specs.Stream.{◌or_else◌, each, decide, catch, changes}
use Rattle.ordered_search.specs.Setting.{held, hold, reach, reach_if}
use Rattle.ordered_search.specs.Tests.{run_one, run_break, run_ref, run_anchor, offers, greedy, reluctant, lazy_run}
use Rattle.ordered_search.specs.Tests.{run_many}
use Rattle.ordered_search.specs.Parts.{in_order, choices, branches, run_group, one_try, tries, tries_within}
use Rattle.ordered_search.specs.Parts.{run_behind, run_atomic, run_look, asserts, tests, follow, run_callout, named}
use Rattle.ordered_search.specs.Parts.{backs, run_verb, turn, run_repeat, returns, run_tree, run_call}
use Rattle.ordered_search.specs.Run.{level, run}
use Rattle.ordered_search.specs.PlaceAnswer.{walk}
use Rattle.ordered_search.specs.MatchAnswer.{from_place}
use Rattle.ordered_search.specs.MatchRows.{Answered, captures, inside, verbs, partials, places, Told, WorkedRows}

computing : Unit {0}
unfolding trees_after trees group_numbers chars encode_utf8 stands least_of nodes lengths by_calls lead_to behind lead
    places_back run_places run_reaches ◌or_else◌ each decide catch changes held hold reach reach_if run_one run_break
    run_ref run_anchor offers greedy reluctant lazy_run run_many in_order choices branches run_group one_try tries
    tries_within run_behind run_atomic run_look asserts tests follow run_callout named backs run_verb turn run_repeat
    returns run_tree run_call level run walk from_place
computing = tt

captures_hold : Answered captures
unfolding computing
captures_hold = (refl, (refl, (refl, (refl, (refl, (refl, (refl, (refl, (refl, tt)))))))))

inside_hold : Answered inside
unfolding computing
inside_hold = (refl, (refl, (refl, (refl, (refl, (refl, (refl, (refl, (refl, (refl, (refl, tt)))))))))))

verbs_hold : Answered verbs
unfolding computing
verbs_hold = (
  refl,
  (refl, (refl, (refl, (refl, (refl, (refl, (refl, (refl, (refl, (refl, (refl, (refl, (refl, tt))))))))))))),
)

partials_hold : Answered partials
unfolding computing
partials_hold = (refl, (refl, (refl, (refl, (refl, (refl, (refl, (refl, (refl, (refl, (refl, tt)))))))))))

places_hold : Answered places
unfolding computing
places_hold = (refl, (refl, (refl, (refl, (refl, (refl, (refl, (refl, (refl, (refl, (refl, (refl, tt))))))))))))

told_hold : Told
unfolding computing
told_hold = record {
  finished_tree = refl;
  automatic_callouts = refl;
  automatic_match = refl;
  failing = refl;
  failing_callouts = refl;
  ending = refl;
  no_match = refl;
  no_match_name = refl;
}

pub rows_hold : WorkedRows
rows_hold = record {
  captures_answered = captures_hold;
  inside_answered = inside_hold;
  verbs_answered = verbs_hold;
  partials_answered = partials_hold;
  places_answered = places_hold;
  told = told_hold;
}
