-- Where the shape matches nothing the search finds nothing, and within the bound no limit is passed.
use Rattle.std.proofs.Common.{◌≡◌, ℕ, zero, suc, ◌+◌, ◌<◌, ◌≤◌, Bool, true, false, List, [], ◌++◌, length}
use Rattle.std.proofs.Common.{length-append, Option, Some, None, refl, sym, ap, subst, ◌∙◌, arith}
use Rattle.std.specs.Prelude.{IfSome}
use Rattle.std.proofs.lemmas.Option.{none-some}
use Rattle.pat_bounds.specs.declared.bounds.Bound.{Bound}
use Rattle.pat_bounds.specs.Bounds.{at}
use Rattle.ordered_search.specs.Stream.{first_state, exhausted, by_verb, by_halt, is_partial, too_many_units, loop}
use Rattle.ordered_search.specs.Stream.{abort, cut, reached, accepted, note, state, step, Stream, ends, ◌▸◌}
use Rattle.ordered_search.specs.Setting.{Setting, match_limit}
use Rattle.ordered_search.specs.Run.{level, run}
use Rattle.ordered_search.specs.Laws.{ending, step_count}
use Rattle.ordered_search.specs.PlaceAnswer.{Exhausted, Failed, Walked, answers, walk, place_answer}
use Rattle.ordered_search.specs.Places.{next_place, last_place, within, is_excluded, place_after}
use Rattle.ordered_search.specs.MatchAnswer.{Found, none_found, tried, found_at, from_place, match_answer}
use Rattle.ordered_search.proofs.CutLaw.{cut_law}
use Rattle.ordered_search.proofs.StartPlaces.{up_to_keeps, next_later, next_stands}
use Rattle.ordered_search.proofs.ForwardStreams.{loosened}
use Rattle.ordered_search.proofs.ForwardLaw.{begun_at}
use Rattle.match_items.specs.Subjects.{IsTextPlace}
use Rattle.search_needs.proofs.TameStreams.{Tame}
use Rattle.search_needs.proofs.Bounded.{FitsSome}
use Rattle.search_needs.proofs.FitsLevels.{fits_level}
use Rattle.regex_hir.specs.Re.{Re}
use Rattle.regex_hir.specs.Matches.{Matches}
use Rattle.regex_hir.specs.Find.{Match, find}
use Rattle.regex_hir.proofs.OptionLemmas.{value_of_IsSome}
use Rattle.regex_hir.proofs.FindLemmas.{find_sound, find_complete}
use Rattle.pat_shape.specs.Wide.{Only, IsShapedSearch, PlaceLaw, NoMatchLaw, FirstLaw, LineLaw, IsPast}
use Rattle.pat_shape.proofs.Slices.{slice_law}
use Rattle.pat_shape.proofs.OnlyStreams.{only_wider}

-- no place at all
abbrev Nowhere : ℕ → Type 0
Nowhere q = ⊥

module _ (g : Setting) where
  walk_fails : (n u : ℕ) (x : Stream) → step_count x ≤ n → Tame u x → Only Nowhere x
      → ¬ (ending x ≡ by_halt cut) → walk g n x ≡ answers (Failed Exhausted)
  unfolding walk step_count Tame Only ending
  walk_fails n u (ends exhausted) few h k whole = refl
  walk_fails n u (ends (by_verb v)) few h k whole = absurd h
  walk_fails n u (ends (by_halt is_partial)) few h k whole = absurd h
  walk_fails n u (ends (by_halt too_many_units)) few h k whole = absurd h
  walk_fails n u (ends (by_halt loop)) few h k whole = absurd h
  walk_fails n u (ends (by_halt (abort a))) few h k whole = absurd h
  walk_fails n u (ends (by_halt cut)) few h k whole = absurd (whole refl)
  walk_fails n u (note m ▸ x) few h k whole = absurd h
  walk_fails n u (state reached s ▸ x) few h k whole = absurd k.0
  walk_fails n u (state accepted s ▸ x) few h k whole = absurd k
  walk_fails zero u (step ▸ x) few h k whole = absurd (omega (arith, few))
  walk_fails (suc n) u (step ▸ x) few h k whole = walk_fails n u x (omega (arith, few)) h k whole

module _ (g : Setting) (re : Re) (b : Bound) (h : IsShapedSearch g re b) where
  place_fails : (p : ℕ) → IsTextPlace g.options g.subject p → ((q : ℕ) → ¬ Matches g.subject re p q)
      → place_answer g p ≡ answers (Failed Exhausted)
  unfolding run
  place_fails p here none =
      let d = match_limit g in
      let s = first_state g.groups p in
      let e : d + 1 ≡ suc d = omega arith in
      let fits = subst (λ o. FitsSome g h.off o (level g (run g d) g.whole)) h.bounded (fits_level g h.off d g.whole) in
      let most = at b.units (length g.subject + 1) in
      let room : 0 + most ≤ g.matching.frame_limit = let u = h.units in omega (arith, u) in
      let w = fits.0 s room in
      let few : step_count (level g (run g d) g.whole s) ≤ d = let k = w.steps in let t = h.steps in
      omega (arith, k, t) in
      let nowhere = only_wider (Matches g.subject re p) Nowhere (λ q m. none q m) _
      (h.wide (suc d) s (loosened g (Some p) s (begun_at g h.search p here))) in
      ap (λ n. walk g d (run g n g.whole s)) e
      ∙ walk_fails g d (0 + most) (level g (run g d) g.whole s) few w.tame nowhere
      (λ cuts. let late = cut_law g (suc d) g.whole s cuts in omega (arith, late, few))

  -- no place from the start on has a match
  module _ (none : (p : ℕ) → g.start ≤ p → p ≤ length g.subject → (q : ℕ) → ¬ Matches g.subject re p q) where
    abbrev Inside : ℕ → Type 0
    Inside p = (g.start ≤ p) × IsTextPlace g.options g.subject p

    tried_fails : (p : ℕ) → Inside p → tried g p ≡ answers (Failed Exhausted)
    tried_fails p here = by_test (is_excluded g p)
      where
        by_test : (c : Bool) → ◌≡◌ {A = Walked}
            (elim c [ true ↦ answers (Failed Exhausted) | false ↦ place_answer g p ]) (answers (Failed Exhausted))
        by_test true = refl
        by_test false = place_fails p here.1 (none p here.0 here.1.within)

    both : (p : ℕ) → Inside p → (o : Option ℕ) → IfSome o (λ q. p < q) → IfSome o (IsTextPlace g.options g.subject)
        → IfSome o Inside
    both p here None far there = tt
    both p here (Some q) far there = let from = here.0 in (omega (arith, from, far), there)

    kept : (o : Option ℕ) → IfSome o Inside → IfSome (within g o) Inside
    kept o k = weaker (within g o) (up_to_keeps Inside (last_place g) o k)
      where
        weaker : (o : Option ℕ) → IfSome o (λ q. Inside q × (q ≤ last_place g)) → IfSome o Inside
        weaker None k = tt
        weaker (Some q) k = k.0

    inside_later : (p : ℕ) → Inside p → IfSome (place_after g p Exhausted) Inside
    inside_later p here =
        kept (next_place g p) (both p here (next_place g p) (next_later g h.search.begun.within p)
        (next_stands g h.search.begun.within h.search.text p here.1))

    none_from : (n : ℕ) (o : Option ℕ) → IfSome o Inside → from_place g n o ≡ none_found
    unfolding from_place
    none_from zero o here = refl
    none_from (suc n) None here = refl
    none_from (suc n) (Some p) here =
        ap (λ w. found_at p w (λ signal. from_place g n (place_after g p signal))) (tried_fails p here)
        ∙ ap (λ (f : Found). record { answer = f.answer; notes = [] ++ f.notes })
        (none_from n (place_after g p Exhausted) (inside_later p here))

    pub none_at_all : match_answer g ≡ none_found
    none_at_all =
        none_from _ (within g (Some g.start))
        (kept (Some g.start) (omega arith, h.search.begun))

pub place_law : PlaceLaw
place_law g re b h p here none = place_fails g re b h p here none

pub no_match_law : NoMatchLaw
no_match_law g re b h e =
    none_at_all g re b h (λ p from to q m.
    let v = value_of_IsSome _ (find_complete re g.subject g.start p q from to m) in
    none-some v.0 (sym e ∙ v.1))

pub first_law : FirstLaw
first_law g re b h m e p here from before =
    place_fails g re b h p here (λ q found. (find_sound re g.subject g.start m e).2 p q from before found)

pub line_law : LineLaw
line_law g re b h bare before after at from le past =
    none_at_all g re b h (λ p begun to q m.
    let held = before ++ (g.subject ++ after) in
    let there = slice_law re bare before g.subject after at p q to m in
    let long = length-append before (g.subject ++ after) in
    let long' = length-append g.subject after in
    by_found held (length before + p) (length before + q) (omega (arith, le)) (omega (arith, to, long, long'))
    (omega (arith, to)) there (find re held from) refl past)
  where
    by_found : (held : List ℕ) (i j : ℕ) → from ≤ i → i ≤ length held → i ≤ length before + length g.subject
        → Matches held re i j
        → (o : Option Match) → find re held from ≡ o → IsPast (length before + length g.subject) o → ⊥
    by_found held i j begun to low m None e past = let v =
        value_of_IsSome _ (find_complete re held from i j begun to m) in none-some v.0 (sym e ∙ v.1)
    by_found held i j begun to low m (Some found) e past =
        (find_sound re held from found e).2 i j begun (omega (arith, low, past)) m
