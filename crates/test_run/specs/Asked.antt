-- What modifiers ask for (pcre2test, "PATTERN MODIFIERS" and "SUBJECT MODIFIERS").
use Rattle.std.specs.Prelude.{ℕ, Bool, false, if◌then◌else◌, List, Option, None, unwrap_or}
use Rattle.pat_tree.specs.declared.options.Options.{Options}
use Rattle.pat_tree.specs.declared.options.MatchOptions.{MatchOptions}
use Rattle.pat_tree.specs.declared.options.PartialMode.{PartialMode}
use Rattle.pat_tree.specs.declared.options.PartialMode.TheVariants.{Off, Soft, Hard}
use Rattle.pat_tree.specs.declared.options.Newline.TheVariants.{Lf}
use Rattle.pat_tree.specs.declared.options.Bsr.TheVariants.{Unicode}
use Rattle.pat_tree.specs.declared.options.TheConstants.MatchOptions as plain_match
use Rattle.test_modifiers.specs.declared.modifiers.Modifiers.{Modifiers}
use Rattle.test_modifiers.specs.Modifiers.{over}
use Rattle.pcre2_api.specs.declared.substitute.SubstOptions.{SubstOptions}
use Rattle.test_lines.specs.declared.gathered.Replies.{Replies}
use Rattle.test_run.specs.declared.options.How.{How}

-- an on-off modifier is on where it is given without `-`
abbrev pub is_on : Option Bool → Bool
is_on flag = unwrap_or flag false

-- how partial matches are looked for: hard goes before soft
abbrev pub partial_of : Modifiers → PartialMode
partial_of m = if is_on m.partial_hard then Hard else if is_on m.partial_soft then Soft else Off

-- the options of a pattern
abbrev pub options_of : Modifiers → Options
options_of m = record {
  anchored = is_on m.anchored;
  endanchored = is_on m.endanchored;
  caseless = is_on m.caseless;
  multiline = is_on m.multiline;
  dotall = is_on m.dotall;
  extended = is_on m.extended;
  extended_more = is_on m.extended_more;
  dollar_endonly = is_on m.dollar_endonly;
  dupnames = is_on m.dupnames;
  firstline = is_on m.firstline;
  literal = is_on m.literal;
  no_auto_capture = is_on m.no_auto_capture;
  ungreedy = is_on m.ungreedy;
  utf = is_on m.utf;
  ucp = is_on m.ucp;
  allow_empty_class = is_on m.allow_empty_class;
  match_unset_backref = is_on m.match_unset_backref;
  no_start_optimize = is_on m.no_start_optimize;
  auto_callout = is_on m.auto_callout;
  notempty = false;
  notempty_atstart = false;
  newline = unwrap_or m.newline Lf;
  bsr = unwrap_or m.bsr Unicode;
  match_limit = None;
}

-- what callouts answer
abbrev pub replies_of : Modifiers → Replies
replies_of m = record { none = is_on m.callout_none; fails = m.callout_fail; errs = m.callout_error }

-- How a subject is searched: its own modifiers are over those of the pattern. Where those anchor,
-- the pattern is anchored, so only the subject's own do so here.
module _ (own earlier : Modifiers) where
  abbrev pub matching_of : MatchOptions
  matching_of =
      let m = over own earlier in
      record plain_match.PLAIN {
        anchored = is_on own.anchored;
        endanchored = is_on own.endanchored;
        notbol = is_on m.notbol;
        noteol = is_on m.noteol;
        notempty = is_on m.notempty;
        notempty_atstart = is_on m.notempty_atstart;
        dfa_shortest = is_on m.dfa_shortest;
        «partial» = partial_of m;
        match_limit = unwrap_or m.match_limit plain_match.PLAIN.match_limit;
        frame_limit = unwrap_or m.frame_limit plain_match.PLAIN.frame_limit;
      }

  abbrev pub how_of : How
  how_of = record {
    matching = matching_of;
    start = unwrap_or (over own earlier).offset 0;
    global = is_on (over own earlier).global;
    marks = is_on (over own earlier).mark;
    replies = replies_of (over own earlier);
  }

  -- whether all ends are looked for
  abbrev pub is_dfa : Bool
  is_dfa = is_on (over own earlier).dfa

  -- the text by which matches are replaced
  abbrev pub replacement_of : Option (List ℕ)
  replacement_of = (over own earlier).replace

  abbrev pub subst_of : SubstOptions
  subst_of =
      let m = over own earlier in
      record {
        global = is_on m.global;
        extended = is_on m.substitute_extended;
        literal = is_on m.substitute_literal;
        unset_empty = is_on m.substitute_unset_empty;
        unknown_unset = is_on m.substitute_unknown_unset;
        replacement_only = is_on m.substitute_replacement_only;
      }
