-- The worked rows compute.
use Rattle.std.proofs.Common.{refl}
use Rattle.byte_lanes.specs.Newlines.{stands}
use Rattle.byte_lanes.specs.Places.{least_of}
use Rattle.token_parts.specs.Bytes.{run_end, numeral}
use Rattle.pat_lengths.specs.Nodes.{nodes}
use Rattle.pat_lengths.specs.Lengths.{lengths, by_calls, lead_to, behind}
use Rattle.pat_check.specs.Lead.{lead}
use Rattle.match_items.specs.Items.{places_back, run_places, run_reaches}
use Rattle.ordered_search.specs.Stream.{◌or_else◌, each, decide, catch, changes}
use Rattle.ordered_search.specs.Setting.{held, hold, reach, reach_if}
use Rattle.ordered_search.specs.Tests.{run_one, run_break, run_ref, run_anchor, offers, greedy, reluctant, lazy_run}
use Rattle.ordered_search.specs.Tests.{run_many}
use Rattle.ordered_search.specs.Parts.{in_order, choices, branches, run_group, one_try, tries, tries_within}
use Rattle.ordered_search.specs.Parts.{run_behind, run_atomic, run_look, asserts, tests, follow, run_callout, named}
use Rattle.ordered_search.specs.Parts.{backs, run_verb, turn, run_repeat, returns, run_tree, run_call}
use Rattle.ordered_search.specs.Run.{level, run}
use Rattle.ordered_search.specs.PlaceAnswer.{walk}
use Rattle.ordered_search.specs.MatchAnswer.{from_place}
use Rattle.subst_plan.specs.Plans.{pieces_of}
use Rattle.subst_plan.specs.Reading.{key_at, is_mark, bare, after_key, braced, reference, quote_end, escape, piece_at}
use Rattle.pcre2_api.specs.Walks.{answer_at, all_from}
use Rattle.pcre2_api.specs.WorkedSubstitutions.{WorkedRows}

searching_computes : Unit {0}
unfolding stands least_of nodes lengths by_calls lead_to behind lead places_back run_places run_reaches ◌or_else◌ each
    decide catch changes held hold reach reach_if run_one run_break run_ref run_anchor offers greedy reluctant
    lazy_run run_many in_order choices branches run_group one_try tries tries_within run_behind run_atomic run_look
    asserts tests follow run_callout named backs run_verb turn run_repeat returns run_tree run_call level run walk
    from_place
searching_computes = tt

computing : Unit {0}
unfolding searching_computes run_end numeral pieces_of key_at is_mark bare after_key braced reference quote_end escape
    piece_at answer_at all_from
computing = tt

pub rows_hold : WorkedRows
unfolding computing
rows_hold = record {
  first = refl;
  all_matches = refl;
  replacements_alone = refl;
  empty_matches = refl;
  between_matches = refl;
  no_match = refl;
  unset = refl;
  later_unset = refl;
  default = refl;
  dollar = refl;
  brace = refl;
  no_group = refl;
}
