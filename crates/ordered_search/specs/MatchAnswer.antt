-- What a search answers over all start places.
use Rattle.std.specs.Prelude.{ℕ, zero, suc, ◌+◌, ◌-◌, Bool, true, false, List, [], ◌++◌, length, Option, Some, None}
use Rattle.ordered_search.specs.Stream.{Note}
use Rattle.ordered_search.specs.Setting.{Setting}
use Rattle.ordered_search.specs.PlaceAnswer.{Outcome, Signal, Exhausted, PlaceAnswer, Matched, Failed, Partial}
use Rattle.ordered_search.specs.PlaceAnswer.{Walked, answers, has_hit, place_answer}
use Rattle.ordered_search.specs.Places.{within, place_after, is_excluded}

pub data MatchAnswer : Type 0 where
  Match : Outcome → MatchAnswer
  NoMatch : MatchAnswer
  PartialFrom : ℕ → MatchAnswer
  -- the answer of a place that ends the search: a limit, a loop or a callout's number
  Error : PlaceAnswer → MatchAnswer

-- an answer, with what was told at all places up to there
pub record Found : Type 0 where
  pub answer : MatchAnswer
  pub notes : List Note

abbrev pub none_found : Found
none_found = record { answer = NoMatch; notes = [] }

-- the place decides
abbrev pub decided : Walked → MatchAnswer → Found
decided w a = record { answer = a; notes = w.notes }

-- where no later place decides, the first place that reached the end has a partial match
abbrev pub undecided : Bool → ℕ → MatchAnswer → MatchAnswer
undecided true p NoMatch = PartialFrom p
undecided true p (PartialFrom q) = PartialFrom p
undecided hit p a = a

-- the place failed, and the later places follow
abbrev pub failed_at : ℕ → Walked → Found → Found
failed_at p w later = record {
  answer = undecided (has_hit w.notes) p later.answer;
  notes = w.notes ++ later.notes;
}

-- what is found where a place answers so, and the later places follow one that failed
abbrev pub found_by : ℕ → Walked → (Signal → Found) → PlaceAnswer → Found
found_by p w later (Matched o) = decided w (Match o)
found_by p w later (Failed signal) = failed_at p w (later signal)
found_by p w later Partial = decided w (PartialFrom p)
found_by p w later a = decided w (Error a)

abbrev pub found_at : ℕ → Walked → (Signal → Found) → Found
found_at p w later = found_by p w later w.answer

module _ (g : Setting) where
  abbrev pub tried : ℕ → Walked
  tried p = elim (is_excluded g p) [ true ↦ answers (Failed Exhausted) | false ↦ place_answer g p ]

  -- the places from one on, n of them at most
  unfoldable pub from_place : ℕ → Option ℕ → Found
  from_place zero p = none_found
  from_place (suc n) None = none_found
  from_place (suc n) (Some p) =
      let w = tried p in
      elim w.answer [
        | Matched o ↦ decided w (Match o)
        | Failed signal ↦ failed_at p w (from_place n (place_after g p signal))
        | Partial ↦ decided w (PartialFrom p)
        | a ↦ decided w (Error a)
      ]

  abbrev pub match_answer : Found
  match_answer = from_place (length g.subject + 1 - g.start) (within g (Some g.start))
