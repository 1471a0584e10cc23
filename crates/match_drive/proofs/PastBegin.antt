-- A pattern that stands at the subject's begin alone fails at every later place.
use Rattle.std.proofs.Common.{◌≡◌, ℕ, zero, suc, ◌+◌, ◌-◌, ◌<◌, ◌≤◌, ◌==◌, Bool, true, false, not, length, Option}
use Rattle.std.proofs.Common.{Some, None, refl, ap, ◌∙◌, arith}
use Rattle.std.specs.Prelude.{IfSome}
use Rattle.std.proofs.lemmas.Bool.{eqb-true}
use Rattle.std.proofs.lemmas.Option.{IfSome_then}
use Rattle.pat_tree.specs.declared.nodes.AnchorKind.{AnchorKind}
use Rattle.pat_tree.specs.declared.nodes.AnchorKind.TheVariants.{Caret, Dollar, SubjectStart, SubjectEnd}
use Rattle.pat_tree.specs.declared.nodes.AnchorKind.TheVariants.{EndOrNewline, StartGiven, Word, NotWord}
use Rattle.pat_tree.specs.Nested.{Row, seq, group, anchor, none, more}
use Rattle.ordered_search.specs.Stream.{State, first_state, reached, nothing, gives, each, and_then}
use Rattle.ordered_search.specs.Setting.{Setting, match_limit, reach_if}
use Rattle.ordered_search.specs.Tests.{run_anchor}
use Rattle.ordered_search.specs.Parts.{in_order, branches, run_group}
use Rattle.ordered_search.specs.Run.{level, levels, run}
use Rattle.ordered_search.specs.PlaceAnswer.{Exhausted, Failed, Walked, answers, walk, place_answer}
use Rattle.match_drive.specs.Begin.{is_begin, StandsAtBegin}
use Rattle.ordered_search.specs.Places.{place_after, is_excluded}
use Rattle.ordered_search.specs.MatchAnswer.{none_found, tried, from_place, found_at}
use Rattle.match_drive.specs.Rest.{found_from}
use Rattle.match_drive.proofs.Steps.{from_is, none_left}
use Rattle.ordered_search.proofs.StartPlaces.{after_later}

-- what stands at the begin alone, where the place isn't the begin

abbrev where_at : Bool → Bool → Bool
where_at b c = elim b [ true ↦ c | false ↦ false ]

fails_unless : (b c : Bool) (s : State) → b ≡ false → elim (where_at b c)
    [ true ↦ gives reached s | false ↦ nothing ] ≡ nothing
fails_unless true c s h = absurd (cc h)
fails_unless false c s h = refl

holds_unless : (b : Bool) (s : State) → b ≡ false → elim b [ true ↦ gives reached s | false ↦ nothing ] ≡ nothing
holds_unless true s h = absurd (cc h)
holds_unless false s h = refl

not_zero : (p : ℕ) → 0 < p → (p == 0) ≡ false
not_zero p h = by_test (p == 0) refl
  where
    by_test : (b : Bool) → (p == 0) ≡ b → b ≡ false
    by_test true e = let z : p ≡ 0 = eqb-true p 0 e in absurd (omega (arith, h, z))
    by_test false e = refl

module _ (g : Setting) where
  anchor_fails : (kind : AnchorKind) (s : State) → is_begin kind ≡ true → (s.place == 0) ≡ false
      → run_anchor g kind s ≡ nothing
  unfolding run_anchor reach_if
  anchor_fails (Caret true) s h past = absurd (cc h)
  anchor_fails (Caret false) s h past = fails_unless (s.place == 0) (not g.matching.notbol) s past
  anchor_fails SubjectStart s h past = holds_unless (s.place == 0) s past
  anchor_fails (Dollar multi end_only) s h past = absurd (cc h)
  anchor_fails SubjectEnd s h past = absurd (cc h)
  anchor_fails EndOrNewline s h past = absurd (cc h)
  anchor_fails StartGiven s h past = absurd (cc h)
  anchor_fails (Word ucp) s h past = absurd (cc h)
  anchor_fails (NotWord ucp) s h past = absurd (cc h)

  whole_fails : (d : ℕ) (kind : AnchorKind) (parts : Row) (s : State) → is_begin kind ≡ true → (s.place == 0) ≡ false
      → run g (suc d) (group None (more (seq (more (anchor kind) parts)) none)) s ≡ nothing
  unfolding run level levels run_group branches in_order each
  whole_fails d kind parts s h past = ap (λ x. and_then x (in_order (levels g (run g d) parts)))
      (anchor_fails kind s h past)

  place_fails : StandsAtBegin g.whole → (p : ℕ) → (p == 0) ≡ false → place_answer g p ≡ answers (Failed Exhausted)
  unfolding walk
  place_fails h p past =
      let e : match_limit g + 1 ≡ suc (match_limit g) = omega arith in
      ap (λ d. walk g (match_limit g) (run g d g.whole (first_state g.groups p))) e
      ∙ ap (λ t. walk g (match_limit g) (run g (suc (match_limit g)) t (first_state g.groups p))) h.is
      ∙ ap (walk g (match_limit g)) (whole_fails (match_limit g) h.kind h.parts (first_state g.groups p) h.begin past)

  tried_fails : StandsAtBegin g.whole → (p : ℕ) → (p == 0) ≡ false → tried g p ≡ answers (Failed Exhausted)
  tried_fails h p past = by_test (is_excluded g p)
    where
      by_test : (b : Bool) → elim b [ true ↦ answers (Failed Exhausted) | false ↦ place_answer g p ] ≡ answers
          (Failed Exhausted)
      by_test true = refl
      by_test false = place_fails h p past

  module _ (begun : g.start ≤ length g.subject) (only : StandsAtBegin g.whole) where
    none_later : (n : ℕ) (o : Option ℕ) → IfSome o (λ p. 0 < p) → from_place g n o ≡ none_found
    unfolding from_place
    none_later n None low = none_left g begun n
    none_later zero (Some p) low = refl
    none_later (suc n) (Some p) low =
        from_is g begun n p
        ∙ ap (λ (w : Walked). found_at p w (λ signal. from_place g n (place_after g p signal)))
        (tried_fails only p (not_zero p low))
        ∙ none_later n (place_after g p Exhausted)
        (IfSome_then (place_after g p Exhausted) (after_later g begun p Exhausted)
        (λ q both. omega (arith, low, both.0)))

    -- nothing is found past the subject's begin
    pub none_past : (p : ℕ) → 0 < p → found_from g (Some p) ≡ none_found
    none_past p low = none_later (length g.subject + 1 - p) (Some p) low
