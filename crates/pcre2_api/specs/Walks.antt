-- The matches of a subject: the first one, or all of them (pcre2api, "Creating a new string with
-- substitutions"; pcre2test, "Finding all matches in a string").
use Rattle.std.specs.Prelude.{ℕ, zero, suc, ◌+◌, ◌*◌, ◌==◌, ◌&&◌, Bool, true, false, if◌then◌else◌, nat_lt, List, []}
use Rattle.std.specs.Prelude.{◌∷◌, length, Option, Some, None}
use Rattle.byte_lanes.specs.declared.line_end.EndKind.TheVariants.{CrLf}
use Rattle.byte_lanes.specs.Newlines.{newline_len, has_crlf}
use Rattle.uni_text.specs.Characters.{char_at}
use Rattle.pat_tree.specs.declared.options.MatchOptions.{MatchOptions}
use Rattle.pat_tree.specs.Newlines.{end_kind}
use Rattle.pat_tree.specs.Pattern.{Pattern}
use Rattle.ordered_search.specs.PlaceAnswer as place
use Rattle.ordered_search.specs.PlaceAnswer.{Outcome, PlaceAnswer, last_name}
use Rattle.ordered_search.specs.MatchAnswer as meant
use Rattle.ordered_search.specs.MatchAnswer.{MatchAnswer, Found, match_answer}
use Rattle.pcre2_api.specs.Patterns.{setting}
use Rattle.pcre2_api.specs.Starts.{start_fault}
use Rattle.pcre2_errors.specs.declared.error.MatchError.{MatchError}
use Rattle.pcre2_errors.specs.declared.error.MatchError.TheVariants as told

-- what one search gives
pub data Answer : Type 0 where
  found : Outcome → Answer
  none : Answer
  failed : MatchError → Answer

-- why a search fails; the other answers of a place end no search
abbrev pub failure_of : PlaceAnswer → MatchError
failure_of place.MatchLimit = told.MatchLimit
failure_of place.FrameLimit = told.FrameLimit
failure_of place.Loop = told.RecurseLoop
failure_of (place.Abort n) = told.Callout n
failure_of _ = told.Memory

-- by the answer of a search, where the subject has this length and this name was met last: a partial match is no match
abbrev pub answer_of : ℕ → Option ℕ → MatchAnswer → Answer
answer_of end mark (meant.Match o) = found o
answer_of end mark meant.NoMatch = none
answer_of end mark (meant.PartialFrom p) = failed (told.Partial p end mark)
answer_of end mark (meant.Error a) = failed (failure_of a)

abbrev pub answer_in : ℕ → Found → Answer
answer_in end f = answer_of end (last_name f.notes) f.answer

-- where an empty match was found, the same place is tried again for another match that begins there
abbrev pub matching_at : MatchOptions → Bool → MatchOptions
matching_at matching true = record matching { anchored = true; notempty_atstart = true }
matching_at matching false = matching

-- the matches in order, and why there are no more: no further match, or a failure
pub record Matches : Type 0 where
  pub outcomes : List Outcome
  pub ended : Option MatchError

abbrev pub no_more : Matches
no_more = record { outcomes = []; ended = None }

abbrev pub fails : MatchError → Matches
fails e = record { outcomes = []; ended = Some e }

abbrev pub with_match : Outcome → Matches → Matches
with_match o m = record m { outcomes = o ∷ m.outcomes }

-- a search from a place on, which may not be able to begin
unfoldable pub answer_at : Pattern → MatchOptions → List ℕ → ℕ → Answer
answer_at p matching subject at = elim (start_fault p.options.utf subject at) [
  | Some e ↦ failed e
  | None ↦ answer_in (length subject) (match_answer (setting p matching subject at))
]

-- whether a CRLF that is a newline stands at a place
abbrev pub is_crlf : Pattern → List ℕ → ℕ → Bool
is_crlf p subject at =
    has_crlf (end_kind p.options.newline p.options.utf) && nat_lt 0 (newline_len CrLf subject at)

-- the place after another, one character on: such a CRLF is passed whole
abbrev pub place_behind : Pattern → List ℕ → ℕ → ℕ
place_behind p subject at =
    if is_crlf p subject at then at + 2 else (char_at p.options.utf subject at).1

module _ (p : Pattern) (matching : MatchOptions) (subject : List ℕ) where
  abbrev pub answer : Bool → ℕ → Answer
  answer again at = answer_at p (matching_at matching again) subject at

  -- where there is no other match at a place with an empty one, the search goes on at the next
  -- place
  abbrev pub goes_on : Bool → ℕ → Bool
  goes_on again at = again && nat_lt at (length subject)

  -- All matches from a place on: each is searched for at the end of the one before. Two searches a
  -- place are enough, and the number bounds how many there are.
  unfoldable pub all_from : ℕ → Bool → ℕ → Matches
  all_from zero again at = no_more
  all_from (suc n) again at = elim (answer again at) [
    | found o ↦ with_match o (all_from n (o.keep == o.to) o.to)
    | none ↦ elim (goes_on again at) [
      | true ↦ all_from n false (place_behind p subject at)
      | false ↦ no_more
    ]
    | failed e ↦ fails e
  ]

  abbrev pub first_from : ℕ → Matches
  first_from at = elim (answer_at p matching subject at) [
    | found o ↦ with_match o no_more
    | none ↦ no_more
    | failed e ↦ fails e
  ]

  -- under `global` all matches count
  abbrev pub matches_from : Bool → ℕ → Matches
  matches_from true at = all_from (2 * length subject + 2) false at
  matches_from false at = first_from at
