-- What C asks with (pcre2api, "Compiling a pattern", "Matching a pattern: the traditional function", "Creating a new
-- string with substitutions").
use Rattle.std.specs.Prelude.{ℕ, ◌==◌, if◌then◌else◌, None, false}
use Rattle.pat_tree.specs.declared.options.Newline.{Newline}
use Rattle.pat_tree.specs.declared.options.Newline.TheVariants as newline
use Rattle.pat_tree.specs.declared.options.Bsr.{Bsr}
use Rattle.pat_tree.specs.declared.options.Bsr.TheVariants as bsr
use Rattle.pat_tree.specs.declared.options.PartialMode.{PartialMode}
use Rattle.pat_tree.specs.declared.options.PartialMode.TheVariants as mode
use Rattle.pat_tree.specs.declared.options.Options.{Options}
use Rattle.pat_tree.specs.declared.options.MatchOptions.{MatchOptions}
use Rattle.pcre2_api.specs.declared.substitute.SubstOptions.{SubstOptions}
use Rattle.c_door.specs.declared.asked.Asked.{Asked}
use Rattle.c_door.specs.declared.asked.MatchAsked.{MatchAsked}
use Rattle.c_door.specs.declared.asked.SubstAsked.{SubstAsked}

-- PCRE2's numbers: CR 1, LF 2, CRLF 3, ANY 4, ANYCRLF 5, NUL 6
abbrev pub newline_of : ℕ → Newline
newline_of n =
    if n == 1 then newline.Cr
    else if n == 3 then newline.CrLf
    else if n == 4 then newline.Any
    else if n == 5 then newline.AnyCrLf
    else if n == 6 then newline.Nul
    else newline.Lf

abbrev pub bsr_of : ℕ → Bsr
bsr_of n = if n == 2 then bsr.AnyCrLf else bsr.Unicode

abbrev pub partial_of : ℕ → PartialMode
partial_of n = if n == 1 then mode.Soft else if n == 2 then mode.Hard else mode.Off

abbrev pub options_of : Asked → Options
options_of a = record {
  anchored = a.anchored;
  endanchored = a.endanchored;
  caseless = a.caseless;
  multiline = a.multiline;
  dotall = a.dotall;
  extended = a.extended;
  extended_more = a.extended_more;
  dollar_endonly = a.dollar_endonly;
  dupnames = a.dupnames;
  firstline = a.firstline;
  literal = a.literal;
  no_auto_capture = a.no_auto_capture;
  ungreedy = a.ungreedy;
  utf = a.utf;
  ucp = a.ucp;
  allow_empty_class = a.allow_empty_class;
  match_unset_backref = a.match_unset_backref;
  no_start_optimize = a.no_start_optimize;
  auto_callout = a.auto_callout;
  notempty = false;
  notempty_atstart = false;
  newline = newline_of a.newline;
  bsr = bsr_of a.bsr;
  match_limit = None;
}

abbrev pub match_options_of : MatchAsked → MatchOptions
match_options_of a = record {
  anchored = a.anchored;
  endanchored = a.endanchored;
  notbol = a.notbol;
  noteol = a.noteol;
  notempty = a.notempty;
  notempty_atstart = a.notempty_atstart;
  dfa_shortest = a.dfa_shortest;
  «partial» = partial_of a.«partial»;
  match_limit = a.match_limit;
  frame_limit = a.frame_limit;
}

abbrev pub subst_options_of : SubstAsked → SubstOptions
subst_options_of a = record {
  global = a.global;
  extended = a.extended;
  literal = a.literal;
  unset_empty = a.unset_empty;
  unknown_unset = a.unknown_unset;
  replacement_only = a.replacement_only;
}
