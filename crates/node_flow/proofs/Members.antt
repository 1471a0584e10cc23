-- What is in a list of numbers, and what holds of it.
use Rattle.std.proofs.Common.{◌≡◌, ℕ, zero, suc, ◌<◌, ◌≢◌, Bool, true, false, ◌||◌, ◌==◌, nat_eq, List, [], ◌∷◌}
use Rattle.std.proofs.Common.{◌++◌, length, get_or, All, ◌⊎◌, inl, inr, refl, sym, subst, arith, ◌∙◌}
use Rattle.std.specs.List.{AllByRecursion, IsDistinct}
use Rattle.std.proofs.Math.Bool.{or-true}
use Rattle.std.proofs.lemmas.Bool.Decides.{nat_tests}
use Rattle.std.proofs.lemmas.List.Folds.{list_any-append}
use Rattle.std.proofs.lemmas.List.Elements.{All-head, All-tail}
use Rattle.pat_tree.specs.Refs.{is_in}

pub same_or_other : (x k : ℕ) → ((x ≡ k) × ((x == k) ≡ true)) ⊎ ((k ≢ x) × ((x == k) ≡ false))
same_or_other x k = grind (arith, nat_tests)

pub in_or_not : (k : ℕ) (ks : List ℕ) → (is_in k ks ≡ true) ⊎ (is_in k ks ≡ false)
in_or_not k ks = elim (is_in k ks) as (λ b. (b ≡ true) ⊎ (b ≡ false)) [ true ↦ inl refl | false ↦ inr refl ]

pub true_false : (b : Bool) → b ≡ true → b ≡ false → ⊥
true_false true e f = cc
true_false false e f = cc

-- what holds of each holds of one that is in
pub of_member : (P : ℕ → Type 0) (ks : List ℕ) (k : ℕ) → All P ks → is_in k ks ≡ true → P k
of_member P [] k all member = absurd (true_false false member refl)
of_member P (x ∷ xs) k all member =
    elim (same_or_other x k) [
      | inl same ↦ subst P same.0 (All-head P x xs all)
      | inr other ↦ of_member P xs k (All-tail P x xs all) (rw other.1 at member)
    ]

pub in_append : (k : ℕ) (xs ys : List ℕ) → is_in k (xs ++ ys) ≡ (is_in k xs || is_in k ys)
in_append k xs ys = list_any-append (λ x. x == k) xs ys

-- none comes twice
unfoldable pub Once : List ℕ → Type 0
Once [] = Unit {0}
Once (x ∷ xs) = (is_in x xs ≡ false) × Once xs

outside : (x : ℕ) (xs : List ℕ) → AllByRecursion (λ y. nat_eq x y ≡ false) xs → is_in x xs ≡ false
outside x [] h = refl
outside x (y ∷ ys) h =
    let other : (y == x) ≡ false = grind (arith, nat_tests, h.0) in
    rw (other, outside x ys h.1) refl

pub once : (xs : List ℕ) → IsDistinct nat_eq xs → Once xs
unfolding IsDistinct Once
once [] h = tt
once (x ∷ xs) h = (outside x xs h.0, once xs h.1)

left_out : (a b : Bool) → (a || b) ≡ false → (a ≡ false) × (b ≡ false)
left_out false false h = (refl, refl)
left_out false true h = (refl, h)
left_out true b h = absurd (true_false true refl h)

pub neither : (xs ys : List ℕ) (k : ℕ) → is_in k (xs ++ ys) ≡ false → (is_in k xs ≡ false) × (is_in k ys ≡ false)
neither xs ys k h = left_out (is_in k xs) (is_in k ys) (sym (in_append k xs ys) ∙ h)

pub once_front : (xs ys : List ℕ) → Once (xs ++ ys) → Once xs
unfolding Once
once_front [] ys h = tt
once_front (x ∷ xs) ys h = ((neither xs ys x h.0).0, once_front xs ys h.1)

pub once_back : (xs ys : List ℕ) → Once (xs ++ ys) → Once ys
unfolding Once
once_back [] ys h = h
once_back (x ∷ xs) ys h = once_back xs ys h.1

pub apart : (xs ys : List ℕ) (k : ℕ) → Once (xs ++ ys) → is_in k xs ≡ true → is_in k ys ≡ false
unfolding Once
apart [] ys k h member = absurd (true_false false member refl)
apart (x ∷ xs) ys k h member =
    elim (same_or_other x k) [
      | inl same ↦ subst (λ j. is_in j ys ≡ false) same.0 (neither xs ys x h.0).1
      | inr other ↦ apart xs ys k h.1 (rw other.1 at member)
    ]

pub apart_back : (xs ys : List ℕ) (k : ℕ) → Once (xs ++ ys) → is_in k ys ≡ true → is_in k xs ≡ false
apart_back xs ys k h member =
    elim (in_or_not k xs) [
      | inl front ↦ absurd (true_false (is_in k ys) member (apart xs ys k h front))
      | inr other ↦ other
    ]

pub in_at : (xs : List ℕ) (i d : ℕ) → i < length xs → is_in (get_or xs i d) xs ≡ true
in_at [] i d l = absurd (omega (arith, l))
in_at (x ∷ xs) zero d l = grind (arith, nat_tests)
in_at (x ∷ xs) (suc i) d l = rw (in_at xs i d (omega (arith, l)), or-true) refl
