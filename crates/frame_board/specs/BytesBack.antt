-- Places before another, outside UTF.
use Rattle.std.proofs.Common.{◌≡◌, ◌∙◌, ℕ, zero, suc, ◌-◌, ◌<◌, ◌≤◌, false, [], drop, Option, Some, None, refl, sym}
use Rattle.std.proofs.Common.{ap, inl, inr, arith}
use Rattle.std.specs.Prelude.{SomeIff}
use Rattle.std.proofs.lemmas.Bool.{cases_lt}
use Rattle.match_items.specs.Scene.{Scene}
use Rattle.match_items.specs.Items.{places_back}
use Rattle.match_items.proofs.Places.{place_before-after}
use Rattle.node_flow.specs.Followers.{first_of}
use Rattle.frame_state.specs.Behind.{place_back}

none_some : (q : ℕ) → None ≡ Some q → ⊥
none_some q e = cc

drop_one : (n p : ℕ) → first_of (drop n []) ≡ None
drop_one zero p = refl
drop_one (suc n) p = refl

module _ (g : Scene) (bytes : g.options.utf ≡ false) where
  -- each character is a byte
  pub place_back_bytes : (n p : ℕ) → n ≤ p → place_back g n p ≡ Some (p - n)
  unfolding places_back
  place_back_bytes zero p le = let same : p ≡ p - 0 = omega arith in ap Some same
  place_back_bytes (suc n) zero le = absurd (omega (arith, le))
  place_back_bytes (suc n) (suc p) le =
      let less : p - n ≡ suc p - suc n = omega arith in
      ap (place_back g n) (place_before-after g p bytes) ∙ place_back_bytes n p (omega (arith, le)) ∙ ap Some less

  pub place_back_none : (n p : ℕ) → p < n → place_back g n p ≡ None
  unfolding places_back
  place_back_none zero p lt = absurd (omega (arith, lt))
  place_back_none (suc n) zero lt = drop_one n 0
  place_back_none (suc n) (suc p) lt = ap (place_back g n) (place_before-after g p bytes)
      ∙ place_back_none n p (omega (arith, lt))

  pub place_back_within : (n p q : ℕ) → place_back g n p ≡ Some q → q ≤ p
  unfolding places_back
  place_back_within zero p q e = let same : p ≡ q = some_same p q e in omega (arith, same)
    where
      some_same : (a b : ℕ) → Some a ≡ Some b → a ≡ b
      some_same a b e = cc
  place_back_within (suc n) zero q e = absurd (none_some q (sym (drop_one n 0) ∙ e))
  place_back_within (suc n) (suc p) q e =
      let le = place_back_within n p q (sym (ap (place_back g n) (place_before-after g p bytes)) ∙ e) in
      omega (arith, le)

  -- what is told by numbers
  pub told_back : (n p m : ℕ) → m ≡ n → (o : Option ℕ) → SomeIff o (m ≤ p) (p - m) → o ≡ place_back g n p
  told_back n p m e None h =
      sym (place_back_none n p (elim (cases_lt p n) [ inl lt ↦ lt | inr ge ↦ absurd (h (omega (arith, e, ge))) ]))
  told_back n p m e (Some q) h = let le : n ≤ p = omega (arith, e, h.0) in
      sym (place_back_bytes n p le ∙ ap (λ k. Some (p - k)) (sym e) ∙ ap Some (sym h.1))
