-- A search gives the same with start optimisations as without them, where it passes no limit without them.
use Rattle.std.proofs.Common.{◌≡◌, ℕ, zero, suc, ◌+◌, ◌≤◌, Bool, true, false, not, Option, Some, None, ◌⊎◌, inl, inr}
use Rattle.std.proofs.Common.{refl, sym, ap, subst, ◌∙◌}
use Rattle.std.specs.Prelude.{IfSome, slice_index}
use Rattle.std.proofs.lemmas.Bool.{true≢false}
use Rattle.pat_lengths.specs.Nodes.{has_accept}
use Rattle.ordered_search.specs.pat_check.Lead.{SomeLead}
use Rattle.match_items.specs.Items.{is_end}
use Rattle.match_items.specs.Subjects.{IsTextPlace}
use Rattle.ordered_search.specs.Stream.{State, first_state, is_partial, too_many_units, loop, abort, cut, exhausted}
use Rattle.ordered_search.specs.Stream.{by_verb, by_halt, reached, accepted, note, state, step, Stream, ends, ◌▸◌}
use Rattle.ordered_search.specs.Setting.{Setting, match_limit}
use Rattle.ordered_search.specs.Run.{run}
use Rattle.ordered_search.specs.PlaceAnswer.{outcome, Signal, Exhausted, PlaceAnswer, Matched, Failed, Partial}
use Rattle.ordered_search.specs.PlaceAnswer.{MatchLimit, FrameLimit, Loop, Abort, NoDepth, Walked, answers, has_hit}
use Rattle.ordered_search.specs.PlaceAnswer.{is_refused_as_empty, is_refused_by_end, walk, place_answer}
use Rattle.ordered_search.specs.Places.{within, next_place, place_after, last_place, is_off, is_outside, is_excluded}
use Rattle.ordered_search.specs.MatchAnswer.{MatchAnswer, Match, NoMatch, PartialFrom, Error, Found, undecided}
use Rattle.ordered_search.specs.MatchAnswer.{from_place, found_by, found_at}
use Rattle.search_starts.specs.StartLaw.{with_no_start_optimize, IsUnverbedSearch, IsLimit, StartLaw}
use Rattle.ordered_search.proofs.WalkLaw.{no_cut}
use Rattle.ordered_search.proofs.StartPlaces.{up_to_keeps, next_stands}
use Rattle.search_starts.proofs.SameSearch.{same_place}
use Rattle.search_starts.proofs.KeptStreams.{Kept}
use Rattle.search_starts.proofs.LeadItems.{Out}
use Rattle.search_starts.proofs.LeadSearch.{Any, Stays, Led, lead_of, quiet_run, led_run}

-- a place without a match: it fails, or a limit is passed
abbrev pub IsPassedBy : Walked → Type 0
IsPassedBy w = (w ≡ answers (Failed Exhausted)) ⊎ (IsLimit (Error w.answer) ⊎ (w.answer ≡ NoDepth))

-- a place that fails does so as one whose search is exhausted
abbrev FailsPlainly : PlaceAnswer → Type 0
FailsPlainly (Failed signal) = signal ≡ Exhausted
FailsPlainly _ = Unit {0}

module _ (g : Setting) where
  walk_passes : (P : State → Type 0) → ((s : State) → P s → ⊥) → (n : ℕ) (x : Stream) → Kept P x
      → IsPassedBy (walk g n x)
  unfolding walk Kept
  walk_passes P none n (ends exhausted) h = inl refl
  walk_passes P none n (ends (by_verb v)) h = absurd h
  walk_passes P none n (ends (by_halt is_partial)) h = absurd h
  walk_passes P none n (ends (by_halt too_many_units)) h = inr (inl tt)
  walk_passes P none n (ends (by_halt loop)) h = absurd h
  walk_passes P none n (ends (by_halt (abort k))) h = absurd h
  walk_passes P none n (ends (by_halt cut)) h = inr (inr refl)
  walk_passes P none n (note k ▸ x) h = absurd h
  walk_passes P none n (state reached s ▸ x) h = absurd (none s h.0)
  walk_passes P none n (state accepted s ▸ x) h = absurd h
  walk_passes P none zero (step ▸ x) h = inr (inl tt)
  walk_passes P none (suc n) (step ▸ x) h = walk_passes P none n x h

  decided_plainly : (b c : Bool) (s : State) (w : Walked) → FailsPlainly w.answer →
      FailsPlainly (elim (elim b as (λ _. Option PlaceAnswer) [
        | true ↦ None
        | false ↦ elim c as (λ _. Option PlaceAnswer) [ false ↦ Some (Matched (outcome s)) | true ↦ None ]
      ]) as (λ _. Walked) [ None ↦ w | Some a ↦ answers a ]).answer
  decided_plainly true c s w h = h
  decided_plainly false false s w h = tt
  decided_plainly false true s w h = h

  walk_plainly : (P : State → Type 0) (n : ℕ) (x : Stream) → Kept P x → FailsPlainly (walk g n x).answer
  unfolding walk Kept
  walk_plainly P n (ends exhausted) h = refl
  walk_plainly P n (ends (by_verb v)) h = absurd h
  walk_plainly P n (ends (by_halt is_partial)) h = absurd h
  walk_plainly P n (ends (by_halt too_many_units)) h = tt
  walk_plainly P n (ends (by_halt loop)) h = absurd h
  walk_plainly P n (ends (by_halt (abort k))) h = absurd h
  walk_plainly P n (ends (by_halt cut)) h = tt
  walk_plainly P n (note k ▸ x) h = absurd h
  walk_plainly P n (state reached s ▸ x) h =
      decided_plainly (is_refused_as_empty g s) (is_refused_by_end g s) s (walk g n x) (walk_plainly P n x h.1)
  walk_plainly P n (state accepted s ▸ x) h = absurd h
  walk_plainly P zero (step ▸ x) h = tt
  walk_plainly P (suc n) (step ▸ x) h = walk_plainly P n x h

  module _ (search : IsUnverbedSearch g) where
    abbrev Here : ℕ → Type 0
    Here p = IsTextPlace g.options g.subject p

    fails_plainly : (p : ℕ) → FailsPlainly (place_answer g p).answer
    fails_plainly p =
        walk_plainly Any (match_limit g) _
        (quiet_run g search.off (match_limit g + 1) g.whole search.unverbed search.regular (first_state g.groups p))

    -- Excluded places.

    abbrev set_of : Bool → SomeLead → Option (ℕ → Bool)
    set_of accepts x = elim accepts [
      | true ↦ None
      | false ↦ elim x [ None ↦ None | Some a ↦ elim a.passing [ true ↦ None | false ↦ Some a.has ] ]
    ]

    outside : (p : ℕ) (has : ℕ → Bool) (e : Bool) → is_end g.scene p ≡ e →
        elim e [ true ↦ is_off g.matching.«partial» | false ↦ not (has (slice_index g.subject p)) ] ≡ true → Out g p has
    outside p has true is h = inl is
    outside p has false is h = inr (by_has (has (slice_index g.subject p)) h)
      where
        by_has : (b : Bool) → not b ≡ true → b ≡ false
        by_has true e = absurd (true≢false (sym e))
        by_has false e = refl

    passed_by : (p : ℕ) (here : Here p) (accepts : Bool) (x : SomeLead) →
        Led g search.off search.bytes search.text p (λ utf. here) x (run g (match_limit g + 1) g.whole) →
        is_outside g (set_of accepts x) p ≡ true → IsPassedBy (place_answer g p)
    passed_by p here true x h e = absurd (true≢false (sym e))
    passed_by p here false None h e = absurd (true≢false (sym e))
    passed_by p here false (Some a) h e = by_passing a.passing refl e
      where
        by_passing : (b : Bool) → a.passing ≡ b → is_outside g (elim b [ true ↦ None | false ↦ Some a.has ]) p ≡ true →
            IsPassedBy (place_answer g p)
        by_passing true is i = absurd (true≢false (sym i))
        by_passing false is i =
            walk_passes (Stays g search.off search.bytes search.text p (λ utf. here) a.passing)
            (λ s k. true≢false (sym k.1 ∙ is)) (match_limit g) _
            (h (outside p a.has (is_end g.scene p) refl i) (first_state g.groups p) refl)

    -- with start optimisations, and without them
    abbrev optimised : Setting
    optimised = with_no_start_optimize false g

    abbrev plain : Setting
    plain = with_no_start_optimize true g

    pub excluded_passes : (p : ℕ) → Here p → is_excluded optimised p ≡ true → IsPassedBy (place_answer g p)
    excluded_passes p here e =
        passed_by p here (has_accept g.whole) (lead_of g search.off search.bytes search.text p (λ utf. here) g.whole)
        (led_run g search.off search.bytes search.text p (λ utf. here) (match_limit g + 1) g.whole search.unverbed
        search.regular) e

    -- One place after the other.

    limit_stays : (hit : Bool) (p : ℕ) (a : MatchAnswer) → IsLimit a → IsLimit (undecided hit p a)
    limit_stays hit p (Match o) h = absurd h
    limit_stays hit p NoMatch h = absurd h
    limit_stays hit p (PartialFrom q) h = absurd h
    limit_stays true p (Error a) h = h
    limit_stays false p (Error a) h = h

    limit_told : (p : ℕ) (w : Walked) (later : Signal → Found) (a : PlaceAnswer) → IsLimit (Error a)
        → IsLimit (found_by p w later a).answer
    limit_told p w later (Matched o) h = absurd h
    limit_told p w later (Failed signal) h = absurd h
    limit_told p w later Partial h = absurd h
    limit_told p w later MatchLimit h = h
    limit_told p w later FrameLimit h = h
    limit_told p w later Loop h = absurd h
    limit_told p w later (Abort n) h = absurd h
    limit_told p w later NoDepth h = absurd h

    same_found : (p : ℕ) (w : Walked) (later other : Signal → Found) →
        (¬ IsLimit (other Exhausted).answer → later Exhausted ≡ other Exhausted) → (a : PlaceAnswer) → FailsPlainly a →
        ¬ IsLimit (found_by p w other a).answer → found_by p w later a ≡ found_by p w other a
    same_found p w later other same (Matched o) plainly ok = refl
    same_found p w later other same (Failed signal) plainly ok =
        subst (λ k. found_by p w later (Failed k) ≡ found_by p w other (Failed k)) (sym plainly) by_later
      where
        by_later : found_by p w later (Failed Exhausted) ≡ found_by p w other (Failed Exhausted)
        by_later = ap (λ f. found_by p w (λ k. f) (Failed Exhausted))
            (same (λ l. ok (subst (λ k. IsLimit (found_by p w other (Failed k)).answer) (sym plainly)
            (limit_stays (has_hit w.notes) p (other Exhausted).answer l))))
    same_found p w later other same Partial plainly ok = refl
    same_found p w later other same MatchLimit plainly ok = refl
    same_found p w later other same FrameLimit plainly ok = refl
    same_found p w later other same Loop plainly ok = refl
    same_found p w later other same (Abort n) plainly ok = refl
    same_found p w later other same NoDepth plainly ok = refl

    same_tried : (p : ℕ) → Here p → (later other : Signal → Found) →
        (¬ IsLimit (other Exhausted).answer → later Exhausted ≡ other Exhausted) →
        ¬ IsLimit (found_at p (place_answer g p) other).answer →
        (b : Bool) → is_excluded optimised p ≡ b →
        found_at p (elim b as (λ _. Walked) [ true ↦ answers (Failed Exhausted) | false ↦ place_answer g p ]) later
        ≡ found_at p (place_answer g p) other
    same_tried p here later other same ok b e = by_test b e
      where
        w : Walked
        w = place_answer g p

        goes_on : found_at p w later ≡ found_at p w other
        goes_on = same_found p w later other same w.answer (fails_plainly p) ok

        by_passed : IsPassedBy w → found_at p (answers (Failed Exhausted)) later ≡ found_at p w other
        by_passed (inl is) = ap (λ v. found_at p v later) (sym is) ∙ goes_on
        by_passed (inr (inl limit)) = absurd (ok (limit_told p w other w.answer limit))
        by_passed (inr (inr is)) = absurd (no_cut g p is)

        by_test : (c : Bool) → is_excluded optimised p ≡ c →
            found_at p (elim c as (λ _. Walked) [ true ↦ answers (Failed Exhausted) | false ↦ w ]) later ≡ found_at p
            w other
        by_test true is = by_passed (excluded_passes p here is)
        by_test false is = goes_on

    first_of : (P Q : ℕ → Type 0) (o : Option ℕ) → IfSome o (λ q. P q × Q q) → IfSome o P
    first_of P Q None h = tt
    first_of P Q (Some q) h = h.0

    here_after : (p : ℕ) → Here p → IfSome (place_after g p Exhausted) Here
    here_after p here =
        first_of Here (λ q. q ≤ last_place g) (place_after g p Exhausted)
        (up_to_keeps Here (last_place g) (next_place g p) (next_stands g search.begun.within search.text p here))

    same_from : (n : ℕ) (o : Option ℕ) → IfSome o Here → ¬ IsLimit (from_place plain n o).answer
        → from_place optimised n o ≡ from_place plain n o
    unfolding from_place
    same_from zero o here ok = refl
    same_from (suc n) None here ok = refl
    same_from (suc n) (Some p) here ok =
        let later : Signal → Found = λ signal. from_place optimised n (place_after g p signal) in
        let other : Signal → Found = λ signal. from_place plain n (place_after g p signal) in
        ap (λ w. found_at p (elim (is_excluded optimised p) as (λ _. Walked)
        [ true ↦ answers (Failed Exhausted) | false ↦ w ]) later) (same_place false g p)
        ∙ same_tried p here later other (same_from n (place_after g p Exhausted) (here_after p here))
        (λ l. ok (subst (λ w. IsLimit (found_at p w other).answer) (sym (same_place true g p)) l))
        (is_excluded optimised p) refl
        ∙ ap (λ w. found_at p w other) (sym (same_place true g p))

    first_here : IfSome (within g (Some g.start)) Here
    first_here =
        first_of Here (λ q. q ≤ last_place g) (within g (Some g.start))
        (up_to_keeps Here (last_place g) (Some g.start) search.begun)

pub start_law : StartLaw
start_law g search ok = same_from g search _ (within g (Some g.start)) (first_here g search) ok
