-- What the modifiers of a list say, and what each of them sets (pcre2test, "PATTERN MODIFIERS" and "SUBJECT
-- MODIFIERS").
use Rattle.std.specs.Prelude.{ℕ, Bool, Some, None}
use Rattle.std.specs.Option.{option_or}
use Rattle.test_modifiers.specs.declared.modifiers.Modifiers.{Modifiers}
use Rattle.test_modifiers.specs.declared.kinds.Flag.{Flag}
use Rattle.test_modifiers.specs.declared.kinds.Flag.TheVariants as flag
use Rattle.test_modifiers.specs.declared.kinds.NumberModifier.{NumberModifier}
use Rattle.test_modifiers.specs.declared.kinds.NumberModifier.TheVariants as number

-- no modifier is given
abbrev pub ungiven : Modifiers
ungiven = record {
  anchored = None;
  endanchored = None;
  caseless = None;
  multiline = None;
  dotall = None;
  extended = None;
  extended_more = None;
  dollar_endonly = None;
  dupnames = None;
  firstline = None;
  literal = None;
  no_auto_capture = None;
  ungreedy = None;
  utf = None;
  ucp = None;
  allow_empty_class = None;
  match_unset_backref = None;
  no_start_optimize = None;
  auto_callout = None;
  info = None;
  mark = None;
  global = None;
  substitute_extended = None;
  substitute_literal = None;
  substitute_unset_empty = None;
  substitute_unknown_unset = None;
  substitute_replacement_only = None;
  dfa = None;
  dfa_shortest = None;
  partial_soft = None;
  partial_hard = None;
  notbol = None;
  noteol = None;
  notempty = None;
  notempty_atstart = None;
  callout_none = None;
  offset = None;
  match_limit = None;
  frame_limit = None;
  callout_fail = None;
  callout_error = None;
  newline = None;
  bsr = None;
  replace = None;
}

-- each modifier that is given, else as it was given earlier
abbrev pub over : Modifiers → Modifiers → Modifiers
over last earlier = record {
  anchored = option_or last.anchored earlier.anchored;
  endanchored = option_or last.endanchored earlier.endanchored;
  caseless = option_or last.caseless earlier.caseless;
  multiline = option_or last.multiline earlier.multiline;
  dotall = option_or last.dotall earlier.dotall;
  extended = option_or last.extended earlier.extended;
  extended_more = option_or last.extended_more earlier.extended_more;
  dollar_endonly = option_or last.dollar_endonly earlier.dollar_endonly;
  dupnames = option_or last.dupnames earlier.dupnames;
  firstline = option_or last.firstline earlier.firstline;
  literal = option_or last.literal earlier.literal;
  no_auto_capture = option_or last.no_auto_capture earlier.no_auto_capture;
  ungreedy = option_or last.ungreedy earlier.ungreedy;
  utf = option_or last.utf earlier.utf;
  ucp = option_or last.ucp earlier.ucp;
  allow_empty_class = option_or last.allow_empty_class earlier.allow_empty_class;
  match_unset_backref = option_or last.match_unset_backref earlier.match_unset_backref;
  no_start_optimize = option_or last.no_start_optimize earlier.no_start_optimize;
  auto_callout = option_or last.auto_callout earlier.auto_callout;
  info = option_or last.info earlier.info;
  mark = option_or last.mark earlier.mark;
  global = option_or last.global earlier.global;
  substitute_extended = option_or last.substitute_extended earlier.substitute_extended;
  substitute_literal = option_or last.substitute_literal earlier.substitute_literal;
  substitute_unset_empty = option_or last.substitute_unset_empty earlier.substitute_unset_empty;
  substitute_unknown_unset = option_or last.substitute_unknown_unset earlier.substitute_unknown_unset;
  substitute_replacement_only = option_or last.substitute_replacement_only earlier.substitute_replacement_only;
  dfa = option_or last.dfa earlier.dfa;
  dfa_shortest = option_or last.dfa_shortest earlier.dfa_shortest;
  partial_soft = option_or last.partial_soft earlier.partial_soft;
  partial_hard = option_or last.partial_hard earlier.partial_hard;
  notbol = option_or last.notbol earlier.notbol;
  noteol = option_or last.noteol earlier.noteol;
  notempty = option_or last.notempty earlier.notempty;
  notempty_atstart = option_or last.notempty_atstart earlier.notempty_atstart;
  callout_none = option_or last.callout_none earlier.callout_none;
  offset = option_or last.offset earlier.offset;
  match_limit = option_or last.match_limit earlier.match_limit;
  frame_limit = option_or last.frame_limit earlier.frame_limit;
  callout_fail = option_or last.callout_fail earlier.callout_fail;
  callout_error = option_or last.callout_error earlier.callout_error;
  newline = option_or last.newline earlier.newline;
  bsr = option_or last.bsr earlier.bsr;
  replace = option_or last.replace earlier.replace;
}

-- a modifier is given, on or off
abbrev pub flag_given : Flag → Bool → Modifiers → Modifiers
flag_given flag.Anchored on earlier = record earlier { anchored = Some on }
flag_given flag.EndAnchored on earlier = record earlier { endanchored = Some on }
flag_given flag.Caseless on earlier = record earlier { caseless = Some on }
flag_given flag.Multiline on earlier = record earlier { multiline = Some on }
flag_given flag.DotAll on earlier = record earlier { dotall = Some on }
flag_given flag.Extended on earlier = record earlier { extended = Some on }
flag_given flag.ExtendedMore on earlier = record earlier { extended_more = Some on }
flag_given flag.DollarEndOnly on earlier = record earlier { dollar_endonly = Some on }
flag_given flag.DupNames on earlier = record earlier { dupnames = Some on }
flag_given flag.FirstLine on earlier = record earlier { firstline = Some on }
flag_given flag.Literal on earlier = record earlier { literal = Some on }
flag_given flag.NoAutoCapture on earlier = record earlier { no_auto_capture = Some on }
flag_given flag.Ungreedy on earlier = record earlier { ungreedy = Some on }
flag_given flag.Utf on earlier = record earlier { utf = Some on }
flag_given flag.Ucp on earlier = record earlier { ucp = Some on }
flag_given flag.AllowEmptyClass on earlier = record earlier { allow_empty_class = Some on }
flag_given flag.MatchUnsetBackref on earlier = record earlier { match_unset_backref = Some on }
flag_given flag.NoStartOptimize on earlier = record earlier { no_start_optimize = Some on }
flag_given flag.AutoCallout on earlier = record earlier { auto_callout = Some on }
flag_given flag.Info on earlier = record earlier { info = Some on }
flag_given flag.Mark on earlier = record earlier { mark = Some on }
flag_given flag.Global on earlier = record earlier { global = Some on }
flag_given flag.SubstituteExtended on earlier = record earlier { substitute_extended = Some on }
flag_given flag.SubstituteLiteral on earlier = record earlier { substitute_literal = Some on }
flag_given flag.SubstituteUnsetEmpty on earlier = record earlier { substitute_unset_empty = Some on }
flag_given flag.SubstituteUnknownUnset on earlier = record earlier { substitute_unknown_unset = Some on }
flag_given flag.SubstituteReplacementOnly on earlier = record earlier { substitute_replacement_only = Some on }
flag_given flag.Dfa on earlier = record earlier { dfa = Some on }
flag_given flag.DfaShortest on earlier = record earlier { dfa_shortest = Some on }
flag_given flag.PartialSoft on earlier = record earlier { partial_soft = Some on }
flag_given flag.PartialHard on earlier = record earlier { partial_hard = Some on }
flag_given flag.NotBol on earlier = record earlier { notbol = Some on }
flag_given flag.NotEol on earlier = record earlier { noteol = Some on }
flag_given flag.NotEmpty on earlier = record earlier { notempty = Some on }
flag_given flag.NotEmptyAtStart on earlier = record earlier { notempty_atstart = Some on }
flag_given flag.CalloutNone on earlier = record earlier { callout_none = Some on }

-- a modifier is given, with its number
abbrev pub number_given : NumberModifier → ℕ → Modifiers → Modifiers
number_given number.Offset n earlier = record earlier { offset = Some n }
number_given number.MatchLimit n earlier = record earlier { match_limit = Some n }
number_given number.FrameLimit n earlier = record earlier { frame_limit = Some n }
number_given number.CalloutFail n earlier = record earlier { callout_fail = Some n }
number_given number.CalloutError n earlier = record earlier { callout_error = Some n }
