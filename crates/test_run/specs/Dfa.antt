-- The ends of a subject, by the matcher that finds them all (pcre2test, "DEFAULT OUTPUT FROM THE
-- ALTERNATIVE MATCHING FUNCTION").
use Rattle.std.specs.Prelude.{ℕ, zero, suc, ◌+◌, ◌*◌, ◌==◌, Bool, true, false, List, [], ◌∷◌, ◌++◌, length, codes}
use Rattle.std.specs.Prelude.{slice_range, Option, Some, None}
use Rattle.tool_io.specs.Texts.{line}
use Rattle.pat_tree.specs.declared.options.MatchOptions.{MatchOptions}
use Rattle.pat_tree.specs.Pattern.{Pattern}
use Rattle.dfa_ends.specs.DfaAnswer.{DfaAnswer, EndsFrom, NoMatch, PartialFrom, dfa_answer}
use Rattle.dfa_graph.specs.declared.making.GraphError.{GraphError}
use Rattle.dfa_graph.specs.Served.{refusal}
use Rattle.pcre2_api.specs.Patterns.{setting}
use Rattle.pcre2_api.specs.Starts.{start_fault}
use Rattle.pcre2_api.specs.Walks.{matching_at, place_behind, goes_on}
use Rattle.pcre2_errors.specs.DfaErrors.{error_of}
use Rattle.pcre2_api.specs.DfaMatched.{start_error_of}
use Rattle.pcre2_errors.specs.DfaErrors.{number_of, text_of}
use Rattle.pcre2_errors.specs.declared.dfa_error.DfaError.{DfaError}
use Rattle.pcre2_errors.specs.declared.dfa_error.DfaError.TheVariants as told
use Rattle.test_lines.specs.Lines.{error_line}
use Rattle.test_lines.specs.Marks.{name_line}
use Rattle.test_lines.specs.Shown.{number_before, shown}

-- what one search gives: the place where the match begins, and its ends, the longest first
pub data Told : Type 0 where
  ends : ℕ → List ℕ → Told
  nothing : Told
  failed : DfaError → Told

-- in a subject of this length, up to whose end a partial match runs
abbrev pub told_of : ℕ → DfaAnswer → Told
told_of len (EndsFrom start qs) = ends start qs
told_of len NoMatch = nothing
told_of len (PartialFrom p) = failed (told.Partial p len)

abbrev pub unless_barred : Option GraphError → Told → Told
unless_barred None a = a
unless_barred (Some e) a = failed (error_of e)

-- a search from a place on, which may not be able to begin
unfoldable pub told_at : Pattern → MatchOptions → List ℕ → ℕ → Told
told_at p matching subject at = elim (start_fault p.options.utf subject at) [
  | Some e ↦ failed (start_error_of e)
  | None ↦ unless_barred (refusal p.tree)
      (told_of (length subject) (dfa_answer (setting p matching subject at) matching.dfa_shortest))
]

-- an end: the text up to it, by its number from 0
abbrev pub end_line : Bool → List ℕ → ℕ → ℕ → ℕ → List ℕ
end_line utf subject start n q =
    line (number_before n ++ shown utf (slice_range subject start q))

-- the ends of a match from one on
unfoldable pub ends_text : Bool → List ℕ → ℕ → ℕ → List ℕ → List ℕ
ends_text utf subject start n [] = []
ends_text utf subject start n (q ∷ qs) =
    end_line utf subject start n q ++ ends_text utf subject start (n + 1) qs

-- the place of a fault of UTF-8 in the subject
abbrev pub fault_place : DfaError → Option ℕ
fault_place (told.BadUtf at) = Some at
fault_place _ = None

abbrev pub failed_text : DfaError → List ℕ
failed_text e = error_line (number_of e) (text_of e) (fault_place e)

-- a search without ends but for a partial match, or one that fails
abbrev pub unmatched_text : Bool → List ℕ → DfaError → List ℕ
unmatched_text utf subject (told.Partial from to) =
    name_line utf (codes "Partial match: ") (slice_range subject from to)
unmatched_text utf subject e = failed_text e

-- all ends and replacements are asked for together
abbrev pub replace_with_dfa_line : List ℕ
replace_with_dfa_line = line (codes "** replace with dfa")

-- that there is no match is shown only where none was shown
abbrev pub none_text : Bool → List ℕ
none_text true = []
none_text false = line (codes "No match")

-- what a search writes
abbrev pub told_text : Bool → List ℕ → Told → List ℕ
told_text utf subject (ends start qs) = ends_text utf subject start 0 qs
told_text utf subject nothing = []
told_text utf subject (failed e) = unmatched_text utf subject e

abbrev pub longest : ℕ → List ℕ → ℕ
longest start [] = start
longest start (q ∷ qs) = q

module _ (p : Pattern) (matching : MatchOptions) (subject : List ℕ) where
  abbrev pub here : Bool → ℕ → Told
  here again at = told_at p (matching_at matching again) subject at

  -- All matches from a place on, as they are written: each is searched for at the longest end of
  -- the one before. Two searches a place are enough, and the number bounds how many there are.
  unfoldable pub all_text : ℕ → Bool → Bool → ℕ → List ℕ
  all_text zero is_shown again at = none_text is_shown
  all_text (suc n) is_shown again at = elim (here again at) [
    | ends start qs ↦
        ends_text p.options.utf subject start 0 qs
        ++ all_text n true (start == longest start qs) (longest start qs)
    | nothing ↦ elim (goes_on p matching subject again at) [
      | true ↦ all_text n is_shown false (place_behind p subject at)
      | false ↦ none_text is_shown
    ]
    | failed e ↦ unmatched_text p.options.utf subject e
  ]

  abbrev pub first_text : ℕ → List ℕ
  first_text at = elim (told_at p matching subject at) [
    | ends start qs ↦ ends_text p.options.utf subject start 0 qs
    | nothing ↦ none_text false
    | failed e ↦ unmatched_text p.options.utf subject e
  ]

  -- under `global` all matches count
  abbrev pub dfa_text : Bool → ℕ → List ℕ
  dfa_text true at = all_text (2 * length subject + 2) false false at
  dfa_text false at = first_text at
