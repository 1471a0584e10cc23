-- Places before a place, of which so many stand.
use Rattle.std.proofs.Common.{◌≡◌, ◌∙◌, ℕ, zero, suc, ◌+◌, ◌-◌, ◌<◌, ◌≤◌, List, [], ◌∷◌, ◌++◌, drop, reverse, length}
use Rattle.std.proofs.Common.{Option, Some, None, refl, sym, ap, subst, arith, length-append, length-drop}
use Rattle.std.proofs.lemmas.List.{reverse-append, length-reverse}
use Rattle.match_items.specs.Scene.{Scene}
use Rattle.match_items.specs.Items.{places_back, place_before}
use Rattle.node_flow.specs.Followers.{first_of}
use Rattle.frame_state.specs.Behind.{place_back}

none_some : (q : ℕ) → None ≡ Some q → ⊥
none_some q e = cc

some_same : (a b : ℕ) → Some a ≡ Some b → a ≡ b
some_same a b e = cc

drop_none : (n : ℕ) → first_of (drop n []) ≡ None
drop_none zero = refl
drop_none (suc n) = refl

drop_front : (n : ℕ) (xs ys : List ℕ) → n ≤ length xs → drop n (xs ++ ys) ≡ drop n xs ++ ys
drop_front zero xs ys le = refl
drop_front (suc n) [] ys le = absurd (omega (arith, le))
drop_front (suc n) (x ∷ xs) ys le = drop_front n xs ys (omega (arith, le))

some_first : (n : ℕ) (xs : List ℕ) → length xs ≡ suc n → (q : ℕ) × (first_of (drop n xs) ≡ Some q)
some_first n [] e = absurd (omega (arith, e))
some_first zero (x ∷ xs) e = (x, refl)
some_first (suc n) (x ∷ xs) e = some_first n xs (omega (arith, e))

one_first : (xs : List ℕ) (q : ℕ) → length xs ≡ 1 → first_of xs ≡ Some q → reverse xs ≡ q ∷ []
one_first [] q one e = absurd (none_some q e)
one_first (x ∷ []) q one e = ap (λ y. y ∷ []) (some_same x q e)
one_first (x ∷ y ∷ xs) q one e = absurd (omega (arith, one))

-- a list of some
pub record IsSome (xs : List ℕ) : Type 0 where
  pub first : ℕ
  pub others : List ℕ
  pub is : xs ≡ first ∷ others

is_some : (xs : List ℕ) → 0 < length xs → IsSome xs
is_some [] lt = absurd (omega (arith, lt))
is_some (x ∷ xs) lt = record { first = x; others = xs; is = refl }

module _ (g : Scene) where
  -- one is so many characters back
  pub some_place : (n p : ℕ) → length (places_back g n p) ≡ suc n → (q : ℕ) × (place_back g n p ≡ Some q)
  some_place n p e = some_first n (places_back g n p) e

  pub last_place : (n p q : ℕ) → length (places_back g n p) ≡ suc n → place_back g n p ≡ Some q
      → reverse (drop n (places_back g n p)) ≡ q ∷ []
  last_place n p q long e =
      one_first (drop n (places_back g n p)) q (omega (arith, long, length-drop n (places_back g n p))) e

  -- from a character more back on
  more_back : (m p q : ℕ) → place_back g (suc m) p ≡ Some q → places_back g (suc m) p ≡ places_back g m p ++ (q ∷ [])
  unfolding places_back
  more_back zero zero q e = absurd (none_some q e)
  more_back zero (suc p) q e = ap (λ x. suc p ∷ x ∷ []) (some_same (place_before g (suc p)) q e)
  more_back (suc m) zero q e = absurd (none_some q (sym (drop_none (suc m)) ∙ e))
  more_back (suc m) (suc p) q e = ap (λ ps. suc p ∷ ps) (more_back m (place_before g (suc p)) q e)

  module _ (least n m p q : ℕ) (is : n ≡ suc m) (low : least ≤ m) (long : length (places_back g n p) ≡ suc n)
      (e : place_back g n p ≡ Some q) where
    more_is : places_back g n p ≡ places_back g m p ++ (q ∷ [])
    more_is =
        ap (λ k. places_back g k p) is ∙ more_back m p q (ap (λ k. place_back g k p) (sym is) ∙ e)

    pub less_long : length (places_back g m p) ≡ suc m
    less_long = omega (arith, long, is, ap length more_is, length-append (places_back g m p) (q ∷ []))

    pub more_places : reverse (drop least (places_back g n p)) ≡ q ∷ reverse (drop least (places_back g m p))
    more_places =
        ap (λ ps. reverse (drop least ps)) more_is
        ∙ ap reverse (drop_front least (places_back g m p) (q ∷ []) (omega (arith, low, less_long)))
        ∙ reverse-append (drop least (places_back g m p)) (q ∷ [])

    pub others_left : IsSome (reverse (drop least (places_back g m p)))
    others_left =
        is_some (reverse (drop least (places_back g m p)))
        (omega (
          arith,
          low,
          less_long,
          length-drop least (places_back g m p),
          length-reverse (drop least (places_back g m p)),
        ))
