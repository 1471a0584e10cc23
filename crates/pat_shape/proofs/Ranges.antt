-- Ranges of characters.
use Rattle.std.proofs.Common.{◌≡◌, ℕ, ◌+◌, ◌<◌, ◌≤◌, Bool, true, false, List, [], ◌∷◌, ◌++◌, ◌||◌, ◌⊎◌, inl, inr}
use Rattle.std.proofs.Common.{refl, sym, subst, arith}
use Rattle.std.specs.Prelude.{◌==◌}
use Rattle.std.proofs.lemmas.Bool.{cases_lt, le-leb, leb-true, eqb-true, and_parts, or_right, true≢false}
use Rattle.std.proofs.lemmas.Bool.Decides.{nat_tests}
use Rattle.std.specs.Char.{IsScalar}
use Rattle.uni_text.specs.Folding.{fold}
use Rattle.uni_text.proofs.FoldLemmas.{past_alike}
use Rattle.regex_class.specs.Ranges.{in_range, in_ranges}

-- the ranges hold each number below n of those that are wanted
abbrev pub Holds : (ℕ → Type 0) → List (ℕ × ℕ) → ℕ → Type 0
Holds P rs n = (k : ℕ) → k < n → P k → in_ranges rs k ≡ true

pub in_last : (rs : List (ℕ × ℕ)) (r : ℕ × ℕ) (b : ℕ) → in_range r b ≡ true → in_ranges (rs ++ r ∷ []) b ≡ true
unfolding in_ranges
in_last [] r b h = rw h refl
in_last (q ∷ rs) r b h = or_right (in_range q b) _ (in_last rs r b h)

pub in_more : (rs : List (ℕ × ℕ)) (r : ℕ × ℕ) (k : ℕ) → in_ranges rs k ≡ true → in_ranges (rs ++ r ∷ []) k ≡ true
unfolding in_ranges
in_more [] r k h = absurd cc
in_more (q ∷ rs) r k h = by_first (in_more rs r k) (in_range q k) h
  where
    by_first : (in_ranges rs k ≡ true → in_ranges (rs ++ r ∷ []) k ≡ true) → (c : Bool) → (c || in_ranges rs k) ≡ true
        → (c || in_ranges (rs ++ r ∷ []) k) ≡ true
    by_first later true h = refl
    by_first later false h = later h

one_of : (b : ℕ) → in_range (b, b) b ≡ true
unfolding in_range
one_of b = let le = le-leb b b (omega arith) in rw le refl

pub holds_pushed : (P : ℕ → Type 0) (rs : List (ℕ × ℕ)) (b : ℕ) → Holds P rs b → Holds P (rs ++ (b, b) ∷ []) (b + 1)
holds_pushed P rs b h k low w = elim (cases_lt k b) [
  | inl less ↦ in_more rs (b, b) k (h k less w)
  | inr more ↦ let same : b ≡ k = omega (arith, low, more) in
      subst (λ n. in_ranges (rs ++ (b, b) ∷ []) n ≡ true) same (in_last rs (b, b) b (one_of b))
]

pub holds_passed : (P : ℕ → Type 0) (rs : List (ℕ × ℕ)) (b : ℕ) → ¬ P b → Holds P rs b → Holds P rs (b + 1)
holds_passed P rs b unwanted h k low w = elim (cases_lt k b) [
  | inl less ↦ h k less w
  | inr more ↦ let same : b ≡ k = omega (arith, low, more) in absurd (unwanted (subst P (sym same) w))
]

or_cases : (x y : Bool) → (x || y) ≡ true → (x ≡ true) ⊎ (y ≡ true)
or_cases true y e = inl refl
or_cases false y e = inr e

-- the ranges hold none that isn't of Q
abbrev pub Only : (ℕ → Type 0) → List (ℕ × ℕ) → Type 0
Only Q rs = (k : ℕ) → in_ranges rs k ≡ true → Q k

one_in : (b k : ℕ) → in_range (b, b) k ≡ true → b ≡ k
unfolding in_range
one_in b k e = let both = and_parts _ _ e in let low = leb-true b k both.0 in let high = leb-true k b both.1 in
    omega (arith, low, high)

pub only_pushed : (Q : ℕ → Type 0) (rs : List (ℕ × ℕ)) (b : ℕ) → Only Q rs → Q b → Only Q (rs ++ (b, b) ∷ [])
unfolding in_ranges
only_pushed Q [] b h q k e = by_one (or_cases (in_range (b, b) k) false e)
  where
    by_one : (in_range (b, b) k ≡ true) ⊎ (false ≡ true) → Q k
    by_one (inl here) = subst Q (one_in b k here) q
    by_one (inr e) = absurd (true≢false (sym e))
only_pushed Q (r ∷ rs) b h q k e = by_first (or_cases (in_range r k) (in_ranges (rs ++ (b, b) ∷ []) k) e)
    (only_pushed Q rs b (λ n e. h n (or_right (in_range r n) _ e)) q k)
  where
    by_first : (in_range r k ≡ true) ⊎ (in_ranges (rs ++ (b, b) ∷ []) k ≡ true)
        → (in_ranges (rs ++ (b, b) ∷ []) k ≡ true → Q k) → Q k
    by_first (inl here) on = h k (rw here refl)
    by_first (inr later) on = on later

pub only_none : (Q : ℕ → Type 0) → Only Q []
unfolding in_ranges
only_none Q k e = absurd cc

pub holds_none : (P : ℕ → Type 0) → Holds P [] 0
holds_none P k low w = absurd (omega (arith, low))

-- one range of those from a number to another, and none

pub from_to : (a b c : ℕ) → a ≤ c → c ≤ b → in_range (a, b) c ≡ true
unfolding in_range
from_to a b c from to = let le = le-leb a c from in let le' = le-leb c b to in rw (le, le') refl

-- a character past the first 256 that folds as one of ASCII does
pub past_folds : (a b : ℕ) → a < 128 → 256 ≤ b → (fold a == fold b) ≡ true → in_range (383, 8490) b ≡ true
unfolding in_range
past_folds a b low high e = let known = past_alike a b (omega (arith, high)) (eqb-true (fold a) (fold b) e) in
    grind (arith, nat_tests)

pub past_letters : (a b : ℕ) → a < 128 → 256 ≤ b → (fold a == fold b) ≡ true
    → (a == 75 || (a == 83 || (a == 107 || a == 115))) ≡ true
past_letters a b low high e = let known = past_alike a b (omega (arith, high)) (eqb-true (fold a) (fold b) e) in
    grind (arith, nat_tests)

-- every character past the first 256
pub past_all : (c : ℕ) → 256 ≤ c → IsScalar c → in_range (256, 1114111) c ≡ true
unfolding in_range
past_all c high scalar = grind (arith, nat_tests)

pub one_alone : (c b : ℕ) → (c == b) ≡ true → in_range (c, c) b ≡ true
one_alone c b e = subst (λ n. in_range (c, c) n ≡ true) (eqb-true c b e) (one_of c)
