-- The worked rows compute.
use Rattle.std.proofs.Common.{refl}
use Rattle.std.specs.Str.{is_utf8}
use Rattle.std.specs.Fmt.{digits}
use Rattle.byte_lanes.specs.Newlines.{stands}
use Rattle.byte_lanes.specs.Places.{least_of}
use Rattle.line_feed.specs.Rows.{rows_within}
use Rattle.grep_args.specs.Words.{plan_of}
use Rattle.token_parts.specs.Bytes.{run_end, numeral}
use Rattle.token_parts.specs.Names.{name_end}
use Rattle.token_parts.specs.Comments.{newline_at, first_newline, line_end, comment, blank_end, blanks_end}
use Rattle.pat_lex.specs.Quantifiers.{is_counted, with_mode, counted}
use Rattle.token_parts.specs.Codes.{octal}
use Rattle.pat_lex.specs.Escapes.{everywhere, outside, longer, escape}
use Rattle.token_parts.specs.Targets.{named_reference, name_escape, digits_start, begins_number, numbered_escape}
use Rattle.pat_lex.specs.Classes.{posix_end, ignored_end, all_ignored_end, class_start, bracket, class_escape, in_class}
use Rattle.token_parts.specs.Settings.{set_by, unset_by, setting_closed, setting}
use Rattle.pat_lex.specs.Verbs.{start_word, closed_word, limit, star_word}
use Rattle.pat_lex.specs.Groups.{opened_by, named_group, angle, special, group}
use Rattle.pat_lex.specs.Tokens.{quoted, rest, plain, token_at}
use Rattle.pat_build.specs.State.{next, item}
use Rattle.pat_build.specs.Options.{with_setting, with_item}
use Rattle.pat_build.specs.Classes.{range_or_hyphen, from_character, from_set, class_parts, class_spec}
use Rattle.pat_build.specs.Groups.{opened, captured, named, groups_of, named_by, places_named, missing}
use Rattle.pat_build.specs.Callouts.{automatic}
use Rattle.pat_build.specs.Reading.{quantified, closed, part_then, alternatives_from, sequence, sequence_at}
use Rattle.pat_build.specs.Reading.{alternatives, whole, started, reading, read_from, read_with, read}
use Rattle.pat_tree.specs.Nested.{trees_after, trees}
use Rattle.pat_tree.specs.Sound.{group_numbers}
use Rattle.pat_lengths.specs.Nodes.{nodes}
use Rattle.pat_lengths.specs.Lengths.{lengths, by_calls, lead_to, behind}
use Rattle.pat_lengths.specs.Lookbehinds.{found_in}
use Rattle.pat_check.specs.Lead.{lead}
use Rattle.match_items.specs.Items.{places_back, run_places, run_reaches}
use Rattle.ordered_search.specs.Stream.{◌or_else◌, each, decide, catch, changes}
use Rattle.ordered_search.specs.Setting.{held, hold, reach, reach_if}
use Rattle.ordered_search.specs.Tests.{run_one, run_break, run_ref, run_anchor, offers, greedy, reluctant, lazy_run}
use Rattle.ordered_search.specs.Tests.{run_many}
use Rattle.ordered_search.specs.Parts.{in_order, choices, branches, run_group, one_try, tries, tries_within}
use Rattle.ordered_search.specs.Parts.{run_behind, run_atomic, run_look, asserts, tests, follow, run_callout, backs}
use Rattle.ordered_search.specs.Parts.{run_verb, turn, run_repeat, run_tree, run_call}
use Rattle.ordered_search.specs.Parts as parts
use Rattle.ordered_search.specs.Run.{level, run}
use Rattle.ordered_search.specs.PlaceAnswer.{walk}
use Rattle.ordered_search.specs.MatchAnswer.{from_place}
use Rattle.grep_core.specs.grep_match.Matches.{later, matches}
use Rattle.grep_output.specs.Scans.{nth_place}
use Rattle.grep_output.specs.InputText.{input_text}
use Rattle.grep_main.specs.Reports.{reports}
use Rattle.grep_main.specs.ToolText.{text_of}
use Rattle.grep_main.specs.Worked.{WorkedRows}

reading_computes : Unit {0}
unfolding stands run_end numeral name_end newline_at first_newline line_end comment blank_end blanks_end is_counted
    with_mode counted everywhere outside octal numbered_escape longer escape named_reference name_escape digits_start
    begins_number posix_end ignored_end all_ignored_end class_start bracket class_escape in_class set_by unset_by
    setting_closed setting start_word closed_word limit star_word opened_by named_group angle special group quoted
    rest plain token_at next with_setting with_item item range_or_hyphen from_character from_set class_parts
    class_spec opened captured named groups_of named_by places_named missing quantified closed part_then
    alternatives_from automatic sequence sequence_at alternatives whole started reading read_from read_with read
reading_computes = tt

searching_computes : Unit {0}
unfolding trees_after trees group_numbers least_of nodes lengths by_calls lead_to behind found_in lead places_back
    run_places run_reaches ◌or_else◌ each decide catch changes held hold reach reach_if run_one run_break run_ref
    run_anchor offers greedy reluctant lazy_run run_many in_order choices branches run_group one_try tries
    tries_within run_behind run_atomic run_look asserts tests follow run_callout parts.named backs run_verb turn
    run_repeat parts.returns run_tree run_call level run walk from_place
searching_computes = tt

computing : Unit {0}
unfolding reading_computes searching_computes is_utf8 digits rows_within plan_of later matches nth_place input_text
    reports text_of
computing = tt

pub rows_hold : WorkedRows
unfolding computing
rows_hold = record {
  optional_letter = refl;
  read_error = refl;
  counts = refl;
  missing = refl;
  pattern_file = refl;
  second_use = refl;
  empty_parts = refl;
  context = refl;
  last_context = refl;
  too_little_context = refl;
  newline = refl;
  offsets = refl;
  binary = refl;
  fixed = refl;
  match_error = refl;
  twenty_errors = refl;
  too_many_errors = refl;
  refused = refl;
  looked_behind = refl;
  refused_behind = refl;
  too_long = refl;
  included = refl;
  excluded_directory = refl;
  not_there = refl;
  bad_filter = refl;
  finished_tree = λ t matching subject start. refl;
}
