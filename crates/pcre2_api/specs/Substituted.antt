-- What replacing the matches of a subject gives (pcre2api, "Creating a new string with
-- substitutions"): the matches, what replaces each, and the text between them.
use Rattle.std.specs.Prelude.{◌≡◌, ⊤, ℕ, suc, ◌+◌, ◌*◌, ◌==◌, ◌≤◌, ◌&&◌, not, Bool, if◌then◌else◌, List, [], ◌∷◌}
use Rattle.std.specs.Prelude.{◌++◌, drop, slice_range, Option, Some, None, Result, Ok, Err}
use Rattle.std.specs.Str.{is_utf8}
use Rattle.std.specs.Str.Lossy.{utf8_valid_len}
use Rattle.pat_tree.specs.declared.options.MatchOptions.{MatchOptions}
use Rattle.pat_tree.specs.declared.options.PartialMode.TheVariants.{Off}
use Rattle.pat_tree.specs.declared.names.NameEntry.{NameEntry}
use Rattle.pat_tree.specs.Pattern.{Pattern, pattern_of}
use Rattle.ordered_search.specs.PlaceAnswer.{Outcome}
use Rattle.subst_plan.specs.declared.faults.ExpandError.{ExpandError}
use Rattle.subst_plan.specs.Plans.{Replacement, plan_of, literal}
use Rattle.subst_plan.specs.Expansion.{after, expansion, rules_of}
use Rattle.pcre2_errors.specs.declared.error.MatchError.{MatchError}
use Rattle.pcre2_errors.specs.declared.error.MatchError.TheVariants as told
use Rattle.pcre2_errors.specs.SubstErrors.{plan_refusal, expand_refusal}
use Rattle.pcre2_api.specs.declared.substitute.SubstOptions.{SubstOptions}
use Rattle.pcre2_api.specs.declared.substitute.Substituted.{Substituted}
use Rattle.pcre2_errors.specs.declared.subst_error.SubstError.{SubstError}
use Rattle.pcre2_errors.specs.declared.subst_error.SubstError.TheVariants as refusal
use Rattle.pcre2_api.specs.declared.substitute.Rewriting.{Rewriting}
use Rattle.pcre2_api.specs.declared.substitute.Search.{Search}
use Rattle.pcre2_api.specs.declared.substitute.Search.TheVariants as search
use Rattle.pcre2_api.specs.Starts.{start_fault}
use Rattle.pcre2_api.specs.Taken.{taken}
use Rattle.pcre2_api.specs.Walks.{Answer, found, none, failed, matches_from}

-- Why matches aren't replaced, by the error of a search. The others are met by no search here: partial
-- matching is taken as off, and no callout is called.
abbrev pub search_refusal : MatchError → SubstError
search_refusal told.BadOffset = refusal.BadOffset
search_refusal (told.BadUtf at) = refusal.BadUtf at
search_refusal told.BadUtfOffset = refusal.BadUtfOffset
search_refusal told.MatchLimit = refusal.MatchLimit
search_refusal told.FrameLimit = refusal.FrameLimit
search_refusal told.RecurseLoop = refusal.RecurseLoop
search_refusal _ = refusal.Memory

-- what a part of the work gives, with its refusal as that of the whole
abbrev pub refused_as : {A E : Type 0} → (E → SubstError) → Result A E → Result A SubstError
refused_as refusal_of (Ok a) = Ok a
refused_as refusal_of (Err e) = Err (refusal_of e)

-- a replacement that is read; in UTF it must be UTF-8
abbrev pub reading : Bool → SubstOptions → List ℕ → Result Replacement SubstError
reading utf how text =
    if utf && not (is_utf8 text) then Err (refusal.ReplacementUtf (utf8_valid_len text))
    else if how.literal then Ok (literal text)
    else refused_as plan_refusal (plan_of how.extended utf text)

-- text that isn't matched
abbrev pub kept : SubstOptions → List ℕ → List ℕ
kept how bytes = if how.replacement_only then [] else bytes

-- one more match, with the text that replaces it and the text before it
abbrev pub behind : List ℕ → Result Substituted SubstError → Result Substituted SubstError
behind bytes (Ok s) = Ok (record { text = bytes ++ s.text; count = suc s.count })
behind bytes (Err e) = Err e

-- what is replaced, and by what
pub record Work : Type 0 where
  pub pattern : Pattern
  pub names : List NameEntry
  pub how : SubstOptions
  pub subject : List ℕ
  pub plan : Replacement

module _ (w : Work) where
  -- what replaces a match
  abbrev pub replacement_of : Outcome → Result (List ℕ) ExpandError
  replacement_of o =
      expansion (rules_of w.how.unset_empty w.how.unknown_unset)
      (taken w.names w.pattern.verb_names w.subject o) w.plan

  -- the text from a place to a match, and what replaces the match
  abbrev pub written_for : ℕ → Outcome → Result (List ℕ) SubstError
  written_for from o =
      refused_as expand_refusal (after (kept w.how (slice_range w.subject from o.keep)) (replacement_of o))

  -- The text from a place on, with these matches replaced, and their number. The first refusal
  -- counts; that of a search comes after the replacements of the matches before it.
  abbrev pub replaced : ℕ → List Outcome → Option MatchError → Result Substituted SubstError
  replaced from [] None = Ok (record { text = kept w.how (drop from w.subject); count = 0 })
  replaced from [] (Some e) = Err (search_refusal e)
  replaced from (o ∷ os) ended = elim (written_for from o) [
    | Ok bytes ↦ behind bytes (replaced o.to os ended)
    | Err e ↦ Err e
  ]

  -- all that is to be replaced, from a start on
  abbrev pub all_replaced : MatchOptions → ℕ → Result Substituted SubstError
  all_replaced matching start =
      let m = matches_from w.pattern matching w.subject w.how.global start in
      replaced 0 m.outcomes m.ended

-- partial matching is taken as off
abbrev pub without_partial : MatchOptions → MatchOptions
without_partial matching = record matching { «partial» = Off }

-- The subject with its matches replaced, and their number, or the first refusal: that of the subject
-- and the start, that of the replacement, and those of the matches in turn.
abbrev pub substituted : Pattern → List NameEntry → MatchOptions → SubstOptions → List ℕ → ℕ → List ℕ
    → Result Substituted SubstError
substituted p names matching how subject start replacement =
    elim (start_fault p.options.utf subject start) [
      | Some e ↦ Err (search_refusal e)
      | None ↦ elim (reading p.options.utf how replacement) [
        | Ok plan ↦
            all_replaced (record { pattern = p; names = names; how = how; subject = subject; plan = plan })
            (without_partial matching) start
        | Err e ↦ Err e
      ]
    ]

-- what a call answers at a refusal, where it doesn't want memory
abbrev pub Refuses : {A : Type 0} → Result A SubstError → SubstError → Type 0
Refuses given refusal.Memory = ⊤
Refuses given e = given ≡ Err e

-- so many searches at most give the matches: two a place, or one for the first match alone
abbrev pub searches : Bool → ℕ → ℕ
searches global len = if global then 2 * len + 2 else 1

-- the bytes are added
abbrev pub IsAdded : List ℕ → List ℕ → Result (List ℕ) SubstError → Type 0
IsAdded old new (Ok bytes) = new ≡ old ++ bytes
IsAdded old new (Err e) = ⊥

-- what a search from a place on adds
abbrev pub added_by : Work → ℕ → Answer → Result (List ℕ) SubstError
added_by w from (found o) = written_for w from o
added_by w from none = Ok []
added_by w from (failed e) = Err (search_refusal e)

-- what is told of a search
abbrev pub IsSearch : ℕ → Search → Answer → Type 0
IsSearch len (search.Replaced to is_empty) (found o) =
    (to ≡ o.to) × (is_empty ≡ (o.keep == o.to)) × (o.to ≤ len)
IsSearch len search.Nothing none = ⊤
IsSearch _ _ _ = ⊥

-- what is told of a match
abbrev pub TellsMatch : Search → Outcome → Type 0
TellsMatch (search.Replaced to is_empty) o = (to ≡ o.to) × (is_empty ≡ (o.keep == o.to))
TellsMatch _ o = ⊥

-- what an error of a search comes to
abbrev pub Tells : MatchError → Result Search SubstError → Type 0
Tells (told.NoMatch mark) result = result ≡ Ok search.Nothing
Tells e result = result ≡ Err (search_refusal e)

abbrev pub work_of : Rewriting → Work
work_of r = record {
  pattern = pattern_of r.code.now.tree;
  names = r.code.now.tree.names;
  how = r.how;
  subject = r.subject.now;
  plan = r.plan.now;
}
