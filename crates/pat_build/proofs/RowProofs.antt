-- The worked rows compute.
use Rattle.std.proofs.Common.{refl}
use Rattle.byte_lanes.specs.Newlines.{stands}
use Rattle.token_parts.specs.Bytes.{run_end, numeral}
use Rattle.token_parts.specs.Names.{name_end}
use Rattle.token_parts.specs.Comments.{newline_at, first_newline, line_end, comment, blank_end, blanks_end}
use Rattle.pat_lex.specs.Quantifiers.{is_counted, count, braces, with_mode, counted}
use Rattle.token_parts.specs.Codes.{octal}
use Rattle.pat_lex.specs.Escapes.{everywhere, outside, longer, escape}
use Rattle.token_parts.specs.Targets.{named_reference, name_escape, digits_start, begins_number, numbered_escape}
use Rattle.pat_lex.specs.Classes.{posix_end, ignored_end, all_ignored_end, class_start, bracket, class_escape, in_class}
use Rattle.token_parts.specs.Settings.{set_by, unset_by, setting_closed, setting}
use Rattle.pat_lex.specs.Verbs.{start_word, verb_word, group_word, named_verb, closed_word, colon_word, limit}
use Rattle.pat_lex.specs.Verbs.{star_word}
use Rattle.pat_lex.specs.Groups.{opened_by, named_group, angle, special, group}
use Rattle.pat_lex.specs.Tokens.{quoted, rest, plain, token_at}
use Rattle.pat_grammar.specs.State.{next, item}
use Rattle.pat_grammar.specs.Options.{with_setting, with_item}
use Rattle.pat_grammar.specs.Classes.{range_or_hyphen, from_character, from_set, class_parts, class_spec}
use Rattle.pat_grammar.specs.Groups.{opened, captured, named, reset, groups_of, named_by, places_named, missing}
use Rattle.pat_grammar.specs.Callouts.{quantified_end, item_from, next_item, automatic}
use Rattle.pat_grammar.specs.Parts.{verbs, callouts}
use Rattle.pat_grammar.specs.Reading.{quantified, closed, part_then, alternatives_from, sequence, sequence_at}
use Rattle.pat_grammar.specs.Reading.{alternatives, whole, started, reading, read_from, read_with, read}
use Rattle.pat_build.specs.Rows.{WorkedRows}

pub rows_hold : WorkedRows
unfolding stands run_end numeral name_end newline_at first_newline line_end comment blank_end blanks_end is_counted
    count braces with_mode counted everywhere outside octal numbered_escape longer escape named_reference name_escape
    digits_start begins_number posix_end ignored_end all_ignored_end class_start bracket class_escape in_class set_by
    unset_by setting_closed setting start_word verb_word group_word named_verb closed_word colon_word limit star_word
    opened_by named_group angle special group quoted rest plain token_at next with_setting with_item item
    range_or_hyphen from_character from_set class_parts class_spec opened captured named reset groups_of named_by
    places_named missing verbs callouts quantified_end item_from next_item automatic quantified closed part_then
    alternatives_from sequence sequence_at alternatives whole started reading read_from read_with read
rows_hold = record {
  unclosed = refl;
  backwards = refl;
  range_backwards = refl;
  two_names = refl;
  two_quantifiers = refl;
  no_group = refl;
  other_name = refl;
  renumbered = refl;
  keeping_out = refl;
  held = refl;
  looking = refl;
  no_minimum = refl;
  no_number = refl;
  class = refl;
  cases = refl;
  later_names = refl;
  start_items = refl;
  verbs = refl;
  unnamed_verb = refl;
  repeated_verb = refl;
}
