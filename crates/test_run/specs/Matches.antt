-- The matches of a subject, as they are written (pcre2test, "Finding all matches in a string"): a
-- search → its callouts, and its match → the next search.
use Rattle.std.specs.Prelude.{ℕ, zero, suc, ◌+◌, ◌*◌, ◌==◌, Bool, true, false, if◌then◌else◌, List, [], ◌++◌, length}
use Rattle.std.specs.Prelude.{Option, Some, None, unwrap_or}
use Rattle.uni_text.specs.Sets.{word}
use Rattle.match_items.specs.Views.{fold_in}
use Rattle.pat_tree.specs.declared.options.MatchOptions.{MatchOptions}
use Rattle.pat_tree.specs.Pattern.{Pattern}
use Rattle.pcre_io.specs.declared.callouts.Block.{Block}
use Rattle.ordered_search.specs.Setting.{Setting, setting_of}
use Rattle.ordered_search.specs.PlaceAnswer.{last_name}
use Rattle.ordered_search.specs.MatchAnswer.{match_answer}
use Rattle.pcre2_api.specs.Matched.{fault_in, shown_by}
use Rattle.pcre2_api.specs.Walks.{Answer, found, none, failed, answer_in, matching_at, place_behind, goes_on}
use Rattle.test_lines.specs.declared.gathered.Replies.{Replies}
use Rattle.test_run.specs.declared.options.How.{How}
use Rattle.test_lines.specs.Callouts.{answer_to, calls_text}
use Rattle.test_lines.specs.Lines.{nothing_text, unmatched_line}
use Rattle.test_lines.specs.Marks.{Showing, showing, match_text}

-- A search of a subject from a place on, whose callouts are answered so.
module _ (p : Pattern) (replies : Replies) (matching : MatchOptions) (subject : List ℕ) (at : ℕ) where
  abbrev pub asking : Setting
  asking =
      setting_of p matching subject at (fold_in p.options.utf) (word true)
      (λ block. answer_to replies block.number)

  -- what it answers; it may not be able to begin
  unfoldable pub answered : Answer
  answered = elim (fault_in asking) [
    | Some e ↦ failed e
    | None ↦ answer_in (length subject) (match_answer asking)
  ]

  -- the last name that it meets
  abbrev pub last_met : Option ℕ
  last_met = last_name (match_answer asking).notes

  -- what its callouts are shown, in order
  abbrev pub called : List Block
  called = unwrap_or (shown_by asking (Some [])) []

-- what an answer writes
abbrev pub answer_text : Showing → List ℕ → Answer → List ℕ
answer_text s subject (found o) = match_text s subject o
answer_text s subject none = []
answer_text s subject (failed e) = unmatched_line s subject e

-- A subject of a pattern, which is written so.
module _ (pattern : List ℕ) (p : Pattern) (how : How) (subject : List ℕ) where
  abbrev pub show : Showing
  show = showing p how.marks

  -- what a search writes: its callouts, and then its answer
  abbrev pub search_text : MatchOptions → ℕ → List ℕ
  search_text matching at =
      calls_text p.options.utf p.verb_names pattern subject how.replies
      (called p how.replies matching subject at)
      ++ answer_text show subject (answered p how.replies matching subject at)

  -- that there is no match, with the last name that was met
  abbrev pub missed_text : MatchOptions → Bool → ℕ → List ℕ
  missed_text matching is_shown at =
      nothing_text show (last_met p how.replies matching subject at) is_shown

  -- All matches from a place on: each is searched for at the end of the one before. Two searches a
  -- place are enough, and the number bounds how many there are.
  unfoldable pub all_text : ℕ → Bool → Bool → ℕ → List ℕ
  all_text zero is_shown again at = nothing_text show None is_shown
  all_text (suc n) is_shown again at =
      search_text (matching_at how.matching again) at
      ++ elim (answered p how.replies (matching_at how.matching again) subject at) [
        | found o ↦ all_text n true (o.keep == o.to) o.to
        | none ↦ elim (goes_on p how.matching subject again at) [
          | true ↦ all_text n is_shown false (place_behind p subject at)
          | false ↦ missed_text (matching_at how.matching again) is_shown at
        ]
        | failed e ↦ []
      ]

  abbrev pub first_text : ℕ → List ℕ
  first_text at =
      search_text how.matching at
      ++ elim (answered p how.replies how.matching subject at) [
        | found o ↦ []
        | none ↦ missed_text how.matching false at
        | failed e ↦ []
      ]

  -- under `global` all matches count
  abbrev pub searched : List ℕ
  searched =
      if how.global then all_text (2 * length subject + 2) false false how.start
      else first_text how.start
