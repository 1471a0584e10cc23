-- The worked rows compute.
use Rattle.std.proofs.Common.{refl}
use Rattle.token_parts.specs.Bytes.{run_end, numeral}
use Rattle.token_parts.specs.Names.{name_end}
use Rattle.token_parts.specs.Comments.{newline_at, first_newline, line_end, blank_end, blanks_end}
use Rattle.pat_lex.specs.Quantifiers.{is_counted, count, braces, with_mode, counted}
use Rattle.token_parts.specs.Codes.{octal, braced, hexadecimal, coded}
use Rattle.pat_lex.specs.Escapes.{everywhere, outside, longer, escape}
use Rattle.token_parts.specs.Targets.{digits_start, begins_number, numbered_escape}
use Rattle.pat_lex.specs.Classes.{posix_set, posix_end, ignored_end, all_ignored_end, class_start, posix, bracket}
use Rattle.pat_lex.specs.Classes.{in_class}
use Rattle.token_parts.specs.Settings.{set_by, unset_by, setting_closed, setting}
use Rattle.token_parts.specs.Conditions.{named_test, bare_test, plain_test, condition}
use Rattle.token_parts.specs.Callouts.{string_callout, callout}
use Rattle.pat_lex.specs.Verbs.{verb_word, named_verb, colon_word, star_word}
use Rattle.pat_lex.specs.Groups.{opened_by, named_group, angle, special, group}
use Rattle.pat_lex.specs.Tokens.{rest, plain, token_at}
use Rattle.pat_lex.specs.Rows.{WorkedRows}
use Rattle.byte_lanes.specs.Newlines.{stands}

pub rows_hold : WorkedRows
unfolding run_end numeral name_end newline_at first_newline line_end blank_end blanks_end is_counted count braces
    with_mode counted everywhere outside octal braced hexadecimal coded numbered_escape longer escape digits_start
    begins_number posix_set posix_end ignored_end all_ignored_end class_start posix bracket in_class set_by unset_by
    setting_closed setting named_test bare_test plain_test condition string_callout callout verb_word named_verb
    colon_word star_word opened_by named_group angle special group rest plain token_at stands
rows_hold = record {
  backwards = refl;
  no_minimum = refl;
  blank_parts = refl;
  few_groups = refl;
  many_groups = refl;
  double_x = refl;
  named = refl;
  in_call = refl;
  doubled = refl;
  mark = refl;
  posix = refl;
  negated_late = refl;
  too_large = refl;
  possessive = refl;
}
