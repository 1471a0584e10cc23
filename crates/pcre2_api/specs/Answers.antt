-- What one pattern answers: pattern, subject and start → match_answer → a match, none, or the number of a match error.
use Rattle.std.specs.Prelude.{ℕ, List, ℤ, Some, None}
use Rattle.pat_tree.specs.declared.options.MatchOptions.{MatchOptions}
use Rattle.ordered_search.specs.PlaceAnswer.{Outcome, PlaceAnswer, MatchLimit, FrameLimit, Loop}
use Rattle.ordered_search.specs.MatchAnswer.{MatchAnswer, Match, NoMatch, PartialFrom, Error, match_answer}
use Rattle.ordered_search.specs.Setting.{Setting}
use Rattle.pat_tree.specs.Pattern.{Pattern}
use Rattle.pcre2_errors.specs.MatchErrors.{minus, number_of}
use Rattle.pcre2_api.specs.Patterns.{setting}
use Rattle.pcre2_api.specs.Starts.{start_fault}

-- what a search of a line gives
pub data Answer : Type 0 where
  found : Outcome → Answer
  none : Answer
  -- a match error, by its number
  error : ℤ → Answer

-- The numbers of the match errors: of the limits, of a recursion at the same place, and of callouts, which are never
-- met here since they are passed over.
abbrev pub error_number : PlaceAnswer → ℤ
error_number MatchLimit = minus 47
error_number FrameLimit = minus 63
error_number Loop = minus 52
error_number _ = minus 37

-- a partial match is no match
abbrev pub answer_of : MatchAnswer → Answer
answer_of (Match o) = found o
answer_of NoMatch = none
answer_of (PartialFrom p) = error (minus 2)
answer_of (Error e) = error (error_number e)

-- one search, which may not be able to begin
abbrev pub search_answer : Setting → Answer
search_answer g = elim (start_fault g.options.utf g.subject g.start) [
  | Some e ↦ error (number_of e)
  | None ↦ answer_of (match_answer g).answer
]

-- one pattern from a place of the line on
abbrev pub pattern_answer : MatchOptions → List ℕ → ℕ → Pattern → Answer
pattern_answer matching line start p = search_answer (setting p matching line start)
