-- Where the expression matches from a place, and within the bound, the search finds a match.
use Rattle.std.proofs.Common.{◌≡◌, ℕ, zero, suc, ◌+◌, ◌-◌, ◌<◌, ◌≤◌, Bool, true, false, ◌&&◌, ◌||◌, ◌==◌, length}
use Rattle.std.proofs.Common.{Option, Some, None, ◌⊎◌, inl, inr, refl, sym, ap, subst, ◌∙◌, arith}
use Rattle.std.specs.Prelude.{nat_lt, not}
use Rattle.std.proofs.lemmas.Bool.{cases_lt, cases_Bool}
use Rattle.byte_lanes.specs.Places.{least_from}
use Rattle.match_items.specs.Items.{newline_at}
use Rattle.pat_bounds.specs.declared.bounds.Bound.{Bound}
use Rattle.pat_bounds.specs.Bounds.{at}
use Rattle.match_items.specs.Subjects.{IsTextPlace}
use Rattle.ordered_search.specs.Stream.{State, first_state, exhausted, by_verb, by_halt, is_partial, too_many_units}
use Rattle.ordered_search.specs.Stream.{loop, abort, cut, reached, accepted, note, state, step, Stream, ends, ◌▸◌}
use Rattle.ordered_search.specs.Setting.{Setting, endanchored, lead_set, notempty, notempty_atstart, match_limit}
use Rattle.ordered_search.specs.Run.{level, run}
use Rattle.ordered_search.specs.Laws.{ending, step_count}
use Rattle.ordered_search.specs.PlaceAnswer.{Outcome, outcome, Exhausted, PlaceAnswer, Failed, Matched, NoDepth}
use Rattle.ordered_search.specs.PlaceAnswer.{Walked, answers, is_refused_by_end, is_refused_as_empty, decision, walk}
use Rattle.ordered_search.specs.PlaceAnswer.{place_answer}
use Rattle.ordered_search.specs.Places.{passes_crlf, last_place, up_to, within, is_outside, is_excluded, place_after}
use Rattle.ordered_search.specs.MatchAnswer.{Error, Found, Match, tried, found_at, from_place, match_answer}
use Rattle.ordered_search.proofs.CutLaw.{cut_law}
use Rattle.ordered_search.proofs.StartPlaces.{up_to_is, next_inside}
use Rattle.ordered_search.proofs.ForwardStreams.{loosened}
use Rattle.ordered_search.proofs.ForwardLaw.{begun_at}
use Rattle.search_needs.proofs.TameStreams.{Tame}
use Rattle.search_needs.proofs.Bounded.{FitsSome}
use Rattle.search_needs.proofs.FitsLevels.{fits_level}
use Rattle.search_starts.specs.StartLaw.{IsLimit}
use Rattle.search_starts.proofs.StartLaw.{IsPassedBy, excluded_passes}
use Rattle.regex_hir.specs.Re.{Re}
use Rattle.regex_hir.specs.Matches.{Matches}
use Rattle.pat_shape.specs.Exact.{Reaches, IsExactSearch, FoundLaw}

-- a place fails, or has a match
abbrev IsPlainly : Walked → Type 0
IsPlainly w = (w ≡ answers (Failed Exhausted)) ⊎ ((o : Outcome) × (w ≡ answers (Matched o)))

refused : (b c : Bool) → (b && (false || (false && c))) ≡ false
refused true c = refl
refused false c = refl

module _ (g : Setting) (some : notempty g ≡ false) (there : notempty_atstart g ≡ false)
    (anywhere : endanchored g ≡ false) where
  decided : (s : State) → decision g reached s ≡ Some (Matched (outcome s))
  decided s =
      ap (λ (b : Bool). elim b as (λ _. Option PlaceAnswer) [
        | true ↦ None
        | false ↦ elim (is_refused_by_end g s) as (λ _. Option PlaceAnswer)
            [ false ↦ Some (Matched (outcome s)) | true ↦ None ]
      ]) not_empty
      ∙ ap (λ (b : Bool). elim b as (λ _. Option PlaceAnswer) [ false ↦ Some (Matched (outcome s)) | true ↦ None ])
      not_end
    where
      not_empty : is_refused_as_empty g s ≡ false
      not_empty =
          ap (λ (b : Bool). (s.keep == s.place) && (b || (notempty_atstart g && (s.keep == g.start)))) some
          ∙ ap (λ (b : Bool). (s.keep == s.place) && (false || (b && (s.keep == g.start)))) there
          ∙ refused (s.keep == s.place) (s.keep == g.start)

      not_end : is_refused_by_end g s ≡ false
      not_end = ap (λ (b : Bool). b && not (s.place == length g.subject)) anywhere

  walk_finds : (q n u : ℕ) (x : Stream) → step_count x ≤ n → Tame u x → Reaches q x → ¬ (ending x ≡ by_halt cut)
      → (o : Outcome) × (walk g n x ≡ answers (Matched o))
  unfolding walk step_count Tame Reaches ending
  walk_finds q n u (ends exhausted) few h k whole = absurd k
  walk_finds q n u (ends (by_verb v)) few h k whole = absurd k
  walk_finds q n u (ends (by_halt is_partial)) few h k whole = absurd h
  walk_finds q n u (ends (by_halt too_many_units)) few h k whole = absurd h
  walk_finds q n u (ends (by_halt loop)) few h k whole = absurd h
  walk_finds q n u (ends (by_halt (abort a))) few h k whole = absurd h
  walk_finds q n u (ends (by_halt cut)) few h k whole = absurd (whole refl)
  walk_finds q n u (note m ▸ x) few h k whole = absurd h
  walk_finds q n u (state reached s ▸ x) few h k whole = (outcome s, rw (decided s, walk) refl)
  walk_finds q n u (state accepted s ▸ x) few h k whole = absurd h
  walk_finds q zero u (step ▸ x) few h k whole = absurd (omega (arith, few))
  walk_finds q (suc n) u (step ▸ x) few h k whole = walk_finds q n u x (omega (arith, few)) h k whole

  walk_plainly : (n u : ℕ) (x : Stream) → step_count x ≤ n → Tame u x → ¬ (ending x ≡ by_halt cut)
      → IsPlainly (walk g n x)
  unfolding walk step_count Tame ending
  walk_plainly n u (ends exhausted) few h whole = inl refl
  walk_plainly n u (ends (by_verb v)) few h whole = absurd h
  walk_plainly n u (ends (by_halt is_partial)) few h whole = absurd h
  walk_plainly n u (ends (by_halt too_many_units)) few h whole = absurd h
  walk_plainly n u (ends (by_halt loop)) few h whole = absurd h
  walk_plainly n u (ends (by_halt (abort a))) few h whole = absurd h
  walk_plainly n u (ends (by_halt cut)) few h whole = absurd (whole refl)
  walk_plainly n u (note m ▸ x) few h whole = absurd h
  walk_plainly n u (state reached s ▸ x) few h whole = inr (outcome s, rw (decided s, walk) refl)
  walk_plainly n u (state accepted s ▸ x) few h whole = absurd h
  walk_plainly zero u (step ▸ x) few h whole = absurd (omega (arith, few))
  walk_plainly (suc n) u (step ▸ x) few h whole = walk_plainly n u x (omega (arith, few)) h whole

module _ (g : Setting) (re : Re) (b : Bound) (h : IsExactSearch g re b) where
  abbrev x : ℕ → Stream
  x p = level g (run g (match_limit g)) g.whole (first_state g.groups p)

  -- the stream of a place is within the bound
  module _ (p : ℕ) where
    abbrev most : ℕ
    most = at b.units (length g.subject + 1)

    fits : (step_count (x p) ≤ match_limit g) × Tame (0 + most) (x p)
    fits =
        let d = match_limit g in
        let all = subst (λ o. FitsSome g h.search.off o (level g (run g d) g.whole)) h.bounded
        (fits_level g h.search.off d g.whole) in
        let room : 0 + most ≤ g.matching.frame_limit = let u = h.units in omega (arith, u) in
        let w = all.0 (first_state g.groups p) room in
        let few : step_count (x p) ≤ d = let k = w.steps in let t = h.steps in omega (arith, k, t) in
        (few, w.tame)

    uncut : ¬ (ending (x p) ≡ by_halt cut)
    unfolding run
    uncut cuts = let late = cut_law g (suc (match_limit g)) g.whole (first_state g.groups p) cuts in let few =
        fits.0 in omega (arith, late, few)

    is_walk : place_answer g p ≡ walk g (match_limit g) (x p)
    unfolding run
    is_walk = let e : match_limit g + 1 ≡ suc (match_limit g) = omega arith in
        ap (λ n. walk g (match_limit g) (run g n g.whole (first_state g.groups p))) e

    plainly : IsPlainly (place_answer g p)
    plainly = subst IsPlainly (sym is_walk) (walk_plainly g h.some h.there h.anywhere (match_limit g) (0 + most) (x p)
        fits.0 fits.1 uncut)

    finds : (q : ℕ) → IsTextPlace g.options g.subject p → Matches g.subject re p q
        → (o : Outcome) × (place_answer g p ≡ answers (Matched o))
    unfolding run
    finds q here m =
        let s = first_state g.groups p in
        let full = h.exact (suc (match_limit g)) s
        (loosened g (Some p) s (begun_at g (record { text = h.search.text; begun = h.search.begun }) p here)) in
        let w = walk_finds g h.some h.there h.anywhere q (match_limit g) (0 + most) (x p) fits.0 fits.1 (full.1 q m)
        uncut in
        (w.0, is_walk ∙ w.1)

  -- a place with a match isn't passed over
  stays : (p : ℕ) → IsTextPlace g.options g.subject p → (o : Outcome) → place_answer g p ≡ answers (Matched o)
      → is_excluded g p ≡ false
  stays p here o matched = by_option g.options.no_start_optimize refl
    where
      no_limit : IsPassedBy (place_answer g p) → ⊥
      no_limit (inl fails) = let both : Matched o ≡ Failed Exhausted =
          ap (λ (w : Walked). w.answer) (sym matched ∙ fails) in absurd cc
      no_limit (inr (inl limit)) = subst (λ w. IsLimit (Error w.answer)) matched limit
      no_limit (inr (inr deep)) = let both : Matched o ≡ NoDepth = ap (λ (w : Walked). w.answer) (sym matched)
          ∙ deep in absurd cc

      by_option : (c : Bool) → g.options.no_start_optimize ≡ c
          → elim c as (λ _. Bool) [ true ↦ false | false ↦ is_outside g (lead_set g) p ] ≡ false
      by_option true e = refl
      by_option false e = elim (cases_Bool (is_outside g (lead_set g) p)) [
        | inl out ↦ absurd (no_limit (excluded_passes g h.search p here out))
        | inr in' ↦ in'
      ]

  -- every place may be tried
  last_is : last_place g ≡ length g.subject
  last_is =
      ap (λ (a : Bool). elim a as (λ _. ℕ) [
        | true ↦ g.start
        | false ↦ elim g.options.firstline as (λ _. ℕ) [
          | true ↦ least_from (λ p. nat_lt 0 (newline_at g.scene p)) g.start (length g.subject)
          | false ↦
              length g.subject
        ]
      ]) h.free
      ∙ ap (λ (f : Bool). elim f as (λ _. ℕ) [
        | true ↦ least_from (λ p. nat_lt 0 (newline_at g.scene p)) g.start
            (length g.subject)
        | false ↦ length g.subject
      ]) h.further

  within_is : (r : ℕ) → r ≤ length g.subject → within g (Some r) ≡ Some r
  within_is r le = ap (λ l. up_to l (Some r)) last_is ∙ up_to_is (length g.subject) r le

  tried_plainly : (p : ℕ) → IsPlainly (tried g p)
  tried_plainly p = by_test (is_excluded g p)
    where
      by_test : (c : Bool)
          → IsPlainly (elim c as (λ _. Walked) [ true ↦ answers (Failed Exhausted) | false ↦ place_answer g p ])
      by_test true = inl refl
      by_test false = plainly p

  module _ (p q : ℕ) (here : IsTextPlace g.options g.subject p) (m : Matches g.subject re p q) where
    abbrev Finds : Found → Type 0
    Finds f = (o : Outcome) × (f.answer ≡ Match o)

    tried_there : (o : Outcome) × (tried g p ≡ answers (Matched o))
    tried_there =
        let f = finds p q here m in (
          f.0,
          ap (λ c. elim c as (λ _. Walked) [ true ↦ answers (Failed Exhausted) | false ↦ place_answer g p ])
              (stays p here f.0 f.1) ∙ f.1,
        )

    -- the next place is no further than p
    next_on : (r : ℕ) → r < p → place_after g r Exhausted ≡ Some (r + 1)
    next_on r before =
        let inside : r < length g.subject = let low = here.within in omega (arith, before, low) in
        let kept = within_is (r + 1) (omega (arith, inside)) in
        let begun = h.search.begun.within in
        let passes : passes_crlf g r ≡ false = rw h.by_lf refl in
        ap (λ o. within g o) (next_inside g begun h.bytes r inside
        ∙ ap (λ (c : Bool). elim c as (λ _. Option ℕ) [ true ↦ Some (r + 2) | false ↦ Some (r + 1) ]) passes)
        ∙ kept

    found_from : (n r : ℕ) → r ≤ p → p < r + n → Finds (from_place g n (Some r))
    unfolding from_place
    found_from zero r le few = absurd (omega (arith, le, few))
    found_from (suc n) r le few = by_case (cases_lt r p) (tried_plainly r)
        (λ before. found_from n (r + 1) (omega (arith, before)) (omega (arith, few)))
      where
        goes : Walked → Found
        goes w = found_at r w (λ signal. from_place g n (place_after g r signal))

        matched : (o : Outcome) → tried g r ≡ answers (Matched o) → Finds (goes (tried g r))
        matched o e = (o, ap (λ w. (goes w).answer) e)

        later : r < p → Finds (from_place g n (Some (r + 1))) → tried g r ≡ answers (Failed Exhausted)
            → Finds (goes (tried g r))
        later before f e =
            (f.0, ap (λ w. (goes w).answer) e ∙ ap (λ o. (from_place g n o).answer) (next_on r before) ∙ f.1)

        by_case : ((r < p) ⊎ (p ≤ r)) → IsPlainly (tried g r) → (r < p → Finds (from_place g n (Some (r + 1))))
            → Finds (goes (tried g r))
        by_case c (inr found) on = matched found.0 found.1
        by_case (inl before) (inl fails) on = later before (on before) fails
        by_case (inr past) (inl fails) on =
            let same : p ≡ r = omega (arith, le, past) in
            let t = tried_there in matched t.0 (ap (λ k. tried g k) (sym same) ∙ t.1)

    pub found : g.start ≤ p → Finds (match_answer g)
    found from =
        let low = here.within in
        let begins = within_is g.start (omega (arith, from, low)) in
        let f = found_from (length g.subject + 1 - g.start) g.start from (omega (arith, from, low)) in
        (f.0, ap (λ o. (from_place g (length g.subject + 1 - g.start) o).answer) begins ∙ f.1)

pub found_law : FoundLaw
found_law g re b h p q here from m = found g re b h p q here m from
