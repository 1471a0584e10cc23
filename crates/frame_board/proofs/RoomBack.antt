-- How many characters stand before a place.
use Rattle.std.proofs.Common.{◌≡◌, ◌∙◌, ℕ, zero, suc, ◌+◌, ◌-◌, ◌<◌, ◌≤◌, ◌⊎◌, inl, inr, length, refl, ap, arith}
use Rattle.match_items.specs.Scene.{Scene}
use Rattle.match_items.specs.Items.{places_back, place_before}

module _ (g : Scene) where
  -- none where no more are asked for, and at the subject's start
  none_by : (n p : ℕ) → n ≡ 0 → length (places_back g n p) ≡ 1
  unfolding places_back
  none_by n p e = ap (λ k. length (places_back g k p)) e

  none_at : (n p : ℕ) → p ≡ 0 → length (places_back g n p) ≡ 1
  unfolding places_back
  none_at zero p e = refl
  none_at (suc n) p e = ap (λ k. length (places_back g (suc n) k)) e

  pub no_room : (n p : ℕ) → (n ≡ 0) ⊎ (p ≡ 0) → length (places_back g n p) ≡ 1
  no_room n p (inl e) = none_by n p e
  no_room n p (inr e) = none_at n p e

  -- and else one more than from the place before
  pub more_room : (m n p : ℕ) → n ≡ suc m → 0 < p → length (places_back g n p)
      ≡ suc (length (places_back g m (place_before g p)))
  unfolding places_back
  more_room m n zero e some = absurd (omega (arith, some))
  more_room m n (suc p) e some = ap (λ k. length (places_back g k (suc p))) e
