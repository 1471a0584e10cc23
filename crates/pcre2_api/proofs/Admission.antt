-- The text of a match is one that the options admit.
use Rattle.std.proofs.Common.{◌≡◌, ℕ, zero, suc, ◌+◌, ◌-◌, Bool, true, false, length, Option, Some, None, refl, subst}
use Rattle.ordered_search.specs.Stream.{State, exhausted, by_verb, by_halt, is_partial, too_many_units, loop, abort}
use Rattle.ordered_search.specs.Stream.{cut, How, reached, accepted, note, state, step, Stream, ends, ◌▸◌}
use Rattle.ordered_search.specs.Setting.{Setting}
use Rattle.ordered_search.specs.PlaceAnswer.{Outcome, outcome, Signal, Exhausted, PlaceAnswer, Matched, Failed}
use Rattle.ordered_search.specs.PlaceAnswer.{Partial, MatchLimit, FrameLimit, Loop, Abort, NoDepth, Walked, answers}
use Rattle.ordered_search.specs.PlaceAnswer.{has_hit, is_refused_by_end, is_refused_as_empty, walk, place_answer}
use Rattle.ordered_search.specs.Places.{within, place_after, is_excluded}
use Rattle.ordered_search.specs.MatchAnswer.{MatchAnswer, Match, NoMatch, PartialFrom, Error, Found, decided}
use Rattle.ordered_search.specs.MatchAnswer.{undecided, failed_at, tried, from_place, match_answer}
use Rattle.pcre2_api.specs.Matched.{IsAdmitted}

module _ (g : Setting) where
  abbrev IsAdmittedPlace : PlaceAnswer → Type 0
  IsAdmittedPlace (Matched o) = IsAdmitted g o
  IsAdmittedPlace _ = Unit {0}

  admitted_state : (how : How) (s : State) (empty by_end : Bool) (w : Walked) → is_refused_as_empty g s ≡ empty
      → is_refused_by_end g s ≡ by_end → IsAdmittedPlace w.answer →
      IsAdmittedPlace
      (elim (elim empty as (λ _. Option PlaceAnswer) [
        | true ↦ None
        | false ↦
            elim by_end [
              | false ↦ Some (Matched (outcome s))
              | true ↦
                  elim how as (λ _. Option PlaceAnswer) [ reached ↦ None | accepted ↦ Some (Failed Exhausted) ]
            ]
      ])
      as (λ _. Walked) [ None ↦ w | Some a ↦ answers a ]).answer
  admitted_state how s true by_end w e f h = h
  admitted_state how s false false w e f h = record { not_empty = e; at_end = f }
  admitted_state reached s false true w e f h = h
  admitted_state accepted s false true w e f h = tt

  admitted_walk : (n : ℕ) (x : Stream) → IsAdmittedPlace (walk g n x).answer
  unfolding walk
  admitted_walk n (ends exhausted) = tt
  admitted_walk n (ends (by_verb v)) = tt
  admitted_walk n (ends (by_halt is_partial)) = tt
  admitted_walk n (ends (by_halt too_many_units)) = tt
  admitted_walk n (ends (by_halt loop)) = tt
  admitted_walk n (ends (by_halt (abort k))) = tt
  admitted_walk n (ends (by_halt cut)) = tt
  admitted_walk n (note k ▸ x) = admitted_walk n x
  admitted_walk n (state how s ▸ x) = admitted_state how s (is_refused_as_empty g s) (is_refused_by_end g s)
      (walk g n x) refl refl (admitted_walk n x)
  admitted_walk zero (step ▸ x) = tt
  admitted_walk (suc n) (step ▸ x) = admitted_walk n x

  admitted_tried : (p : ℕ) (b : Bool)
      → IsAdmittedPlace (elim b as (λ _. Walked) [
        | true ↦ answers (Failed Exhausted)
        | false ↦
            place_answer g p
      ]).answer
  admitted_tried p true = tt
  admitted_tried p false = admitted_walk _ _

  abbrev IsAdmittedAnswer : MatchAnswer → Type 0
  IsAdmittedAnswer (Match o) = IsAdmitted g o
  IsAdmittedAnswer _ = Unit {0}

  admitted_undecided : (hit : Bool) (p : ℕ) (a : MatchAnswer) → IsAdmittedAnswer a
      → IsAdmittedAnswer (undecided hit p a)
  admitted_undecided true p (Match o) h = h
  admitted_undecided true p NoMatch h = tt
  admitted_undecided true p (PartialFrom q) h = tt
  admitted_undecided true p (Error a) h = tt
  admitted_undecided false p a h = h

  admitted_later : (p : ℕ) (w : Walked) (later : Signal → Found) (a : PlaceAnswer) → IsAdmittedPlace a
      → ((signal : Signal) → IsAdmittedAnswer (later signal).answer) →
      IsAdmittedAnswer (elim a as (λ _. Found) [
        | Matched o ↦ decided w (Match o)
        | Failed signal ↦
            failed_at p w (later signal)
        | Partial ↦ decided w (PartialFrom p)
        | b ↦ decided w (Error b)
      ]).answer
  admitted_later p w later (Matched o) h k = h
  admitted_later p w later (Failed signal) h k = admitted_undecided (has_hit w.notes) p (later signal).answer (k signal)
  admitted_later p w later Partial h k = tt
  admitted_later p w later MatchLimit h k = tt
  admitted_later p w later FrameLimit h k = tt
  admitted_later p w later Loop h k = tt
  admitted_later p w later (Abort m) h k = tt
  admitted_later p w later NoDepth h k = tt

  admitted_from : (n : ℕ) (next : Option ℕ) → IsAdmittedAnswer (from_place g n next).answer
  unfolding from_place
  admitted_from zero next = tt
  admitted_from (suc n) None = tt
  admitted_from (suc n) (Some p) =
      admitted_later p (tried g p) (λ signal. from_place g n (place_after g p signal)) (tried g p).answer
      (admitted_tried p (is_excluded g p))
      (λ signal. admitted_from n (place_after g p signal))

  pub is_admitted : (o : Outcome) → (match_answer g).answer ≡ Match o → IsAdmitted g o
  is_admitted o e = subst IsAdmittedAnswer e (admitted_from (length g.subject + 1 - g.start) (within g (Some g.start)))
