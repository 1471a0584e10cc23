-- As many places as there are left are enough.
use Rattle.std.proofs.Common.{◌≡◌, ◌∙◌, ℕ, zero, suc, ◌+◌, ◌-◌, ◌<◌, ◌≤◌, Bool, true, false, length, Option, Some}
use Rattle.std.proofs.Common.{None, refl, sym, ap, subst, arith}
use Rattle.std.specs.Prelude.{IfSome}
use Rattle.ordered_search.specs.Setting.{Setting}
use Rattle.ordered_search.specs.PlaceAnswer.{Exhausted}
use Rattle.ordered_search.specs.Places.{last_place, place_after, within, is_excluded}
use Rattle.ordered_search.proofs.StartPlaces.{up_to_is, last_within, start_within, after_later}
use Rattle.dfa_ends.specs.DfaAnswer.{DfaAnswer, NoMatch, decision_at, from_place, dfa_answer}

module _ (g : Setting) (shortest : Bool) (begun : g.start ≤ length g.subject) where
  abbrev Covers : ℕ → Option ℕ → Type 0
  Covers n None = Unit {0}
  Covers n (Some p) = (p ≤ last_place g) × (length g.subject < n + p)

  after_covers : (n p : ℕ) → length g.subject < suc n + p → Covers n (place_after g p Exhausted)
  after_covers n p room = of_later (place_after g p Exhausted) (after_later g begun p Exhausted)
    where
      of_later : (o : Option ℕ) → IfSome o (λ q. (p < q) × (q ≤ last_place g)) → Covers n o
      of_later None h = tt
      of_later (Some q) h = (h.1, omega (arith, h.0))

  -- what a place gives, where the later places give this
  abbrev here : ℕ → DfaAnswer → DfaAnswer
  here p later = elim (is_excluded g p) [
    | true ↦ later
    | false ↦ elim (decision_at g shortest p) [ Some a ↦ a | None ↦ later ]
  ]

  from_is : (n p : ℕ) →
      from_place g shortest (suc n) (Some p)
      ≡ here p (from_place g shortest n (place_after g p Exhausted))
  unfolding from_place
  from_is n p = refl

  none_left : (n : ℕ) → from_place g shortest n None ≡ NoMatch
  unfolding from_place
  none_left zero = refl
  none_left (suc n) = refl

  covered : (n m : ℕ) (o : Option ℕ) → Covers n o → Covers m o →
      from_place g shortest n o ≡ from_place g shortest m o
  covered n m None h k = none_left n ∙ sym (none_left m)
  covered zero m (Some p) h k = absurd (omega (arith, h.0, h.1, last_within g begun))
  covered (suc n) zero (Some p) h k = absurd (omega (arith, k.0, k.1, last_within g begun))
  covered (suc n) (suc m) (Some p) h k =
      from_is n p
      ∙ ap (here p)
      (covered n m (place_after g p Exhausted) (after_covers n p h.1) (after_covers m p k.1))
      ∙ sym (from_is m p)

  first_covered : (n : ℕ) → length g.subject < n + g.start → Covers n (within g (Some g.start))
  first_covered n room =
      subst (Covers n) (sym (up_to_is (last_place g) g.start (start_within g begun)))
      (start_within g begun, room)

  pub enough_places : (more : ℕ) →
      from_place g shortest ((length g.subject + 1 - g.start) + more) (within g (Some g.start))
      ≡ dfa_answer g shortest
  enough_places more =
      let n = length g.subject + 1 - g.start in
      covered (n + more) n (within g (Some g.start))
      (first_covered (n + more) (omega (arith, begun))) (first_covered n (omega (arith, begun)))
