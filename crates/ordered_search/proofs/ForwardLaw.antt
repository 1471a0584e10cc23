-- A search gives a match in the subject, whole or partial, none, a limit, a loop or a callout's number.
use Rattle.std.proofs.Common.{◌≡◌, ℕ, zero, suc, ◌+◌, ◌-◌, ◌<◌, ◌≤◌, ◌≢◌, Bool, true, false, length, Option, Some}
use Rattle.std.proofs.Common.{None, refl, arith}
use Rattle.std.specs.Prelude.{nat_le, nat_lt, IfSome}
use Rattle.std.proofs.lemmas.List.{length-replicate}
use Rattle.std.proofs.lemmas.List.Elements.{All-replicate}
use Rattle.ordered_search.specs.Stream.{State, first_state, next_branch, prune, skip, commit, exhausted, by_verb}
use Rattle.ordered_search.specs.Stream.{by_halt, is_partial, too_many_units, loop, abort, cut, How, reached}
use Rattle.ordered_search.specs.Stream.{accepted, note, state, step, Stream, ends, ◌▸◌}
use Rattle.ordered_search.specs.Setting.{Setting, match_limit}
use Rattle.ordered_search.specs.PlaceAnswer.{outcome, Signal, Exhausted, Prune, Skip, Commit, PlaceAnswer, Matched}
use Rattle.ordered_search.specs.PlaceAnswer.{Failed, Partial, MatchLimit, FrameLimit, Loop, Abort, NoDepth, Walked}
use Rattle.ordered_search.specs.PlaceAnswer.{answers, has_hit, is_refused_by_end, is_refused_as_empty, walk}
use Rattle.ordered_search.specs.PlaceAnswer.{place_answer}
use Rattle.ordered_search.proofs.WalkLaw.{no_cut}
use Rattle.ordered_search.specs.Places.{next_place, last_place, within, place_after, is_excluded}
use Rattle.ordered_search.specs.MatchAnswer.{MatchAnswer, Match, NoMatch, PartialFrom, Error, Found, decided}
use Rattle.ordered_search.specs.MatchAnswer.{undecided, failed_at, tried, from_place}
use Rattle.match_items.specs.Subjects.{IsTextPlace}
use Rattle.ordered_search.specs.Forward.{IsWithin, IsPlaced, IsPlain, IsTextSearch, ForwardLaw}
use Rattle.ordered_search.proofs.StartPlaces.{up_to_keeps, start_within, after_later, next_stands}
use Rattle.ordered_search.proofs.ForwardStreams.{IsOnWay, Forward}
use Rattle.ordered_search.proofs.ForwardSearch.{forward_run}

module _ (g : Setting) (search : IsTextSearch g) where
  -- what a place answers
  abbrev IsPlainPlace : PlaceAnswer → Type 0
  IsPlainPlace (Matched o) = IsPlaced g o
  IsPlainPlace (Failed Exhausted) = Unit {0}
  IsPlainPlace (Failed Prune) = Unit {0}
  IsPlainPlace (Failed (Skip q)) = IsTextPlace g.options g.subject q
  IsPlainPlace (Failed Commit) = Unit {0}
  IsPlainPlace MatchLimit = Unit {0}
  IsPlainPlace FrameLimit = Unit {0}
  IsPlainPlace Loop = Unit {0}
  IsPlainPlace NoDepth = Unit {0}
  IsPlainPlace Partial = Unit {0}
  IsPlainPlace (Abort n) = Unit {0}

  abbrev IsPlainWalk : Walked → Type 0
  IsPlainWalk w = IsPlainPlace w.answer

  placed : (low : ℕ) (s : State) → g.start ≤ low → IsOnWay g (Some low) s → IsPlaced g (outcome s)
  placed low s le on =
      let begins : low ≤ s.keep = on.kept.0 in
      record {
        begins = omega (arith, le, begins);
        ordered = on.kept.1;
        within = on.here.within;
        place = on.here;
        caps = on.caps;
        groups = on.groups;
      }

  plain_state : (low : ℕ) (how : How) (s : State) (empty by_end : Bool) (w : Walked) → g.start ≤ low
      → IsOnWay g (Some low) s → IsPlainWalk w →
      IsPlainWalk (elim (elim empty as (λ _. Option PlaceAnswer) [
        | true ↦ None
        | false ↦ elim by_end [
          | false ↦ Some (Matched (outcome s))
          | true ↦
              elim how as (λ _. Option PlaceAnswer) [ reached ↦ None | accepted ↦ Some (Failed Exhausted) ]
        ]
      ])
      [ None ↦ w | Some a ↦ answers a ])
  plain_state low how s true by_end w le on h = h
  plain_state low how s false false w le on h = placed low s le on
  plain_state low reached s false true w le on h = h
  plain_state low accepted s false true w le on h = tt

  plain_walk : (low p n : ℕ) (x : Stream) → g.start ≤ low → Forward g (Some low) p x → IsPlainWalk (walk g n x)
  unfolding Forward walk
  plain_walk low p n (ends exhausted) le h = tt
  plain_walk low p n (ends (by_verb next_branch)) le h = tt
  plain_walk low p n (ends (by_verb prune)) le h = tt
  plain_walk low p n (ends (by_verb (skip q))) le h = h
  plain_walk low p n (ends (by_verb commit)) le h = tt
  plain_walk low p n (ends (by_halt is_partial)) le h = tt
  plain_walk low p n (ends (by_halt too_many_units)) le h = tt
  plain_walk low p n (ends (by_halt loop)) le h = tt
  plain_walk low p n (ends (by_halt (abort m))) le h = tt
  plain_walk low p n (ends (by_halt cut)) le h = tt
  plain_walk low p n (note k ▸ x) le h = plain_walk low p n x le h
  plain_walk low p n (state how s ▸ x) le h =
      plain_state low how s (is_refused_as_empty g s) (is_refused_by_end g s) (walk g n x) le h.1
      (plain_walk low p n x le h.2)
  plain_walk low p zero (step ▸ x) le h = tt
  plain_walk low p (suc n) (step ▸ x) le h = plain_walk low p n x le h

  pub begun_at : (p : ℕ) → IsTextPlace g.options g.subject p → IsOnWay g (Some p) (first_state g.groups p)
  begun_at p here = record {
    kept = (omega arith, omega arith);
    here = here;
    passed = tt;
    caps = All-replicate (IsWithin (length g.subject)) g.groups None tt;
    groups = length-replicate g.groups None;
  }

  plain_place : (p : ℕ) → g.start ≤ p → IsTextPlace g.options g.subject p → IsPlainWalk (place_answer g p)
  plain_place p le here =
      plain_walk p p (match_limit g) _ le (forward_run g search.text (match_limit g + 1) (Some p) g.whole
      (first_state g.groups p) (begun_at p here))

  not_cut : (p : ℕ) (b : Bool)
      → (elim b as (λ _. Walked) [ true ↦ answers (Failed Exhausted) | false ↦ place_answer g p ]).answer ≢ NoDepth
  not_cut p true = λ e. cc
  not_cut p false = no_cut g p

  plain_tried : (p : ℕ) (b : Bool) → g.start ≤ p → IsTextPlace g.options g.subject p
      → IsPlainWalk (elim b [ true ↦ answers (Failed Exhausted) | false ↦ place_answer g p ])
  plain_tried p true le in' = tt
  plain_tried p false le in' = plain_place p le in'

  plain_undecided : (hit : Bool) (p : ℕ) (a : MatchAnswer) → g.start ≤ p → IsTextPlace g.options g.subject p
      → IsPlain g a → IsPlain g (undecided hit p a)
  plain_undecided true p (Match o) le here h = h
  plain_undecided true p NoMatch le here h = (le, here)
  plain_undecided true p (PartialFrom q) le here h = (le, here)
  plain_undecided true p (Error a) le here h = h
  plain_undecided false p a le here h = h

  plain_answer : (p : ℕ) (w : Walked) (later : Signal → Found) (a : PlaceAnswer) → g.start ≤ p
      → IsTextPlace g.options g.subject p → IsPlainPlace a → a ≢ NoDepth →
      ((signal : Signal) → IsPlainPlace (Failed signal) → IsPlain g (later signal).answer) →
      IsPlain g (elim a as (λ _. Found) [
        | Matched o ↦ decided w (Match o)
        | Failed signal ↦
            failed_at p w (later signal)
        | Partial ↦ decided w (PartialFrom p)
        | b ↦ decided w (Error b)
      ]).answer
  plain_answer p w later (Matched o) le here h n k = h
  plain_answer p w later (Failed signal) le here h n k =
      plain_undecided (has_hit w.notes) p (later signal).answer le here (k signal h)
  plain_answer p w later Partial le here h n k = (le, here)
  plain_answer p w later MatchLimit le here h n k = tt
  plain_answer p w later FrameLimit le here h n k = tt
  plain_answer p w later Loop le here h n k = tt
  plain_answer p w later (Abort m) le here h n k = tt
  plain_answer p w later NoDepth le here h n k = absurd (n refl)

  abbrev IsInside : Option ℕ → Type 0
  IsInside next = IfSome next (λ p. (g.start ≤ p) × (p ≤ last_place g) × IsTextPlace g.options g.subject p)

  inside_both : (p : ℕ) (next : Option ℕ) → g.start ≤ p → IfSome next (λ q. (p < q) × (q ≤ last_place g))
      → IfSome next (λ q. IsTextPlace g.options g.subject q × (q ≤ last_place g)) → IsInside next
  inside_both p None le h k = tt
  inside_both p (Some q) le h k = let later : p < q = h.0 in (omega (arith, le, later), h.1, k.0)

  stands_next : (p : ℕ) → IsTextPlace g.options g.subject p →
      IfSome (within g (next_place g p)) (λ q. IsTextPlace g.options g.subject q × (q ≤ last_place g))
  stands_next p here =
      up_to_keeps (IsTextPlace g.options g.subject) (last_place g) (next_place g p)
      (next_stands g search.begun.within search.text p here)

  stands_after : (p : ℕ) → IsTextPlace g.options g.subject p → (signal : Signal) → IsPlainPlace (Failed signal) →
      IfSome (place_after g p signal) (λ q. IsTextPlace g.options g.subject q × (q ≤ last_place g))
  stands_after p here Exhausted h = stands_next p here
  stands_after p here Prune h = stands_next p here
  stands_after p here (Skip to) h = by_test (nat_lt p to)
    where
      by_test : (b : Bool) → IfSome (elim b [ true ↦ within g (Some to) | false ↦ within g (next_place g p) ])
          (λ q. IsTextPlace g.options g.subject q × (q ≤ last_place g))
      by_test true = up_to_keeps (IsTextPlace g.options g.subject) (last_place g) (Some to) h
      by_test false = stands_next p here
  stands_after p here Commit h = tt

  inside_after : (p : ℕ) → g.start ≤ p → IsTextPlace g.options g.subject p → (signal : Signal)
      → IsPlainPlace (Failed signal) →
      IsInside (place_after g p signal)
  inside_after p le here signal h =
      inside_both p (place_after g p signal) le (after_later g search.begun.within p signal)
      (stands_after p here signal h)

  plain_from : (n : ℕ) (next : Option ℕ) → IsInside next → IsPlain g (from_place g n next).answer
  unfolding from_place
  plain_from zero next h = tt
  plain_from (suc n) None h = tt
  plain_from (suc n) (Some p) h =
      let walk = plain_tried p (is_excluded g p) h.0 h.2 in
      plain_answer p (tried g p) (λ signal. from_place g n (place_after g p signal)) (tried g p).answer h.0 h.2 walk
      (not_cut p (is_excluded g p))
      (λ signal plain. plain_from n (place_after g p signal) (inside_after p h.0 h.2 signal plain))

  first_inside : IsInside (within g (Some g.start))
  first_inside = by_test (nat_le g.start (last_place g)) refl
    where
      by_test : (b : Bool) → nat_le g.start (last_place g) ≡ b
          → IsInside (elim b [ true ↦ Some g.start | false ↦ None ])
      by_test true e = (omega arith, start_within g search.begun.within, search.begun)
      by_test false e = tt

pub forward_law : ForwardLaw
forward_law g search = plain_from g search (length g.subject + 1 - g.start) (within g (Some g.start))
    (first_inside g search)
