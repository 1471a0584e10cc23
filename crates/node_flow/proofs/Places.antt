-- Places in a list in which no number stands twice.
use Rattle.std.specs.List.{IsDistinct, AllByRecursion, list_any}
use Rattle.std.proofs.Common.{◌≡◌, ◌≢◌, ℕ, ◌+◌, ◌<◌, ◌≤◌, false, ◌==◌, nat_eq, List, [], ◌∷◌, length, get_or, set}
use Rattle.std.proofs.Common.{All, inl, inr, ◌⊎◌, refl, sym, ◌∙◌, arith, get_or-set_same, get_or-set_other}
use Rattle.std.proofs.lemmas.Bool.Decides.{nat_tests}
use Rattle.std.proofs.lemmas.Map.Keys.{apart_from_distinct}
use Rattle.std.proofs.lemmas.Map.Steps.{length-le_from_distinct_below}
use Rattle.pat_tree.specs.Refs.{is_in}
use Rattle.node_flow.proofs.Members.{Once, of_member}

pub flipped : (k : ℕ) (xs : List ℕ) → list_any (nat_eq k) xs ≡ is_in k xs
flipped k [] = refl
flipped k (x ∷ xs) = let one : nat_eq k x ≡ (x == k) = grind (arith, nat_tests) in rw (one, flipped k xs) refl

-- numbers below n of which no two are equal are at most n
pub few : (xs : List ℕ) (n : ℕ) → IsDistinct nat_eq xs → All (λ x. x < n) xs → length xs ≤ n
few xs n distinct below = length-le_from_distinct_below xs n distinct
    (λ q h. of_member (λ x. x < n) xs q below (sym (flipped q xs) ∙ h))

other_place : (xs : List ℕ) (i j : ℕ) → IsDistinct nat_eq xs → i < j → j < length xs → get_or xs i 0 ≢ get_or xs j 0
other_place xs i j distinct l m = λ e.
    let apart : nat_eq (get_or xs i 0) (get_or xs j 0) ≡ false = apart_from_distinct nat_eq xs i j 0 distinct l m in
    grind (arith, nat_tests, apart, e)

pub place_step : (ranks xs : List ℕ) (n : ℕ) → IsDistinct nat_eq xs → n < length xs → get_or xs n 0 < length ranks
    → ((i : ℕ) → i < n → get_or ranks (get_or xs i 0) 0 ≡ i) →
    (i : ℕ) → i < n + 1 → get_or (set ranks (get_or xs n 0) n) (get_or xs i 0) 0 ≡ i
place_step ranks xs n distinct l inside before i m =
    let cases : (i < n) ⊎ (i ≡ n) = grind arith in
    elim cases [
      | inl less ↦ get_or-set_other ranks (get_or xs n 0) (get_or xs i 0) n 0 (other_place xs i n distinct less l)
          ∙ before i less
      | inr is ↦ rw is (get_or-set_same ranks (get_or xs n 0) n 0 inside)
    ]

inside : (x : ℕ) (xs : List ℕ) → is_in x xs ≡ false → AllByRecursion (λ y. nat_eq x y ≡ false) xs
inside x [] h = tt
inside x (y ∷ ys) h =
    let here : nat_eq x y ≡ false = grind (arith, nat_tests, h) in
    let later : is_in x ys ≡ false = grind (arith, nat_tests, h) in
    (here, inside x ys later)

pub distinct : (xs : List ℕ) → Once xs → IsDistinct nat_eq xs
unfolding IsDistinct Once
distinct [] h = tt
distinct (x ∷ xs) h = (inside x xs h.0, distinct xs h.1)
