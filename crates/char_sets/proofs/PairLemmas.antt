-- Pairs of characters that fold alike, which rise by their first characters.
use Rattle.std.proofs.Common.{◌≡◌, ℕ, zero, suc, ◌<◌, ◌≤◌, Bool, true, false, ◌||◌, ◌&&◌, ◌==◌, nat_lt, List, []}
use Rattle.std.proofs.Common.{◌∷◌, length, get_or, refl, sym, ap, subst, ◌∙◌, arith, Contains}
use Rattle.std.proofs.lemmas.Bool.{and_parts}
use Rattle.std.proofs.lemmas.Bool.Decides.{nat_tests}
use Rattle.std.proofs.lemmas.List.Folds.{list_any_at}
use Rattle.std.specs.Int.{is_in_range}
use Rattle.std.specs.List.{list_any}
use Rattle.std.specs.List.Sorted.{IsNonDecreasingBy}
use Rattle.ucd_case.specs.CaseFolding.{fold_pairs}
use Rattle.ucd_case.proofs.BoundLemmas.{pairs_rise, pairs_rise-fold_pairs}

-- the pair has c first and a character of the range after it
abbrev pub pair_has : ℕ → ℕ → ℕ → ℕ × ℕ → Bool
pair_has from to c pair = pair.0 == c && is_in_range from to pair.1

first_after : (p q : ℕ × ℕ) → ((nat_lt p.0 q.0 || ((p.0 == q.0) && nat_lt p.1 q.1)) ≡ true) → p.0 ≤ q.0
first_after p q h = grind (arith, nat_tests)

rise_on : (last : ℕ × ℕ) (pairs : List (ℕ × ℕ)) (k : ℕ) (d : ℕ × ℕ) → pairs_rise last pairs ≡ true → k < length pairs
    → last.0 ≤ (get_or pairs k d).0
unfolding pairs_rise
rise_on last [] k d h lt = absurd (omega arith)
rise_on last (p ∷ ps) zero d h lt = first_after last p (and_parts _ _ h).0
rise_on last (p ∷ ps) (suc k) d h lt =
    let parts = and_parts (nat_lt last.0 p.0 || ((last.0 == p.0) && nat_lt last.1 p.1)) (pairs_rise p ps) h in
    let first : last.0 ≤ p.0 = first_after last p parts.0 in
    let rest : p.0 ≤ (get_or ps k d).0 = rise_on p ps k d parts.1 (omega arith) in
    omega (arith, first, rest)

rise : (last : ℕ × ℕ) (pairs : List (ℕ × ℕ)) → pairs_rise last pairs ≡ true
    → IsNonDecreasingBy (λ (pair : ℕ × ℕ). pair.0) pairs
unfolding pairs_rise
rise last [] h i j d le lt = absurd (omega arith)
rise last (p ∷ ps) h zero zero d le lt = omega arith
rise last (p ∷ ps) h zero (suc j) d le lt =
    rise_on p ps j d (and_parts (nat_lt last.0 p.0 || ((last.0 == p.0) && nat_lt last.1 p.1)) (pairs_rise p ps) h).1
    (omega arith)
rise last (p ∷ ps) h (suc i) zero d le lt = absurd (omega arith)
rise last (p ∷ ps) h (suc i) (suc j) d le lt =
    rise p ps (and_parts (nat_lt last.0 p.0 || ((last.0 == p.0) && nat_lt last.1 p.1)) (pairs_rise p ps) h).1 i j d
    (omega arith) (omega arith)

pub fold_pairs-rise : IsNonDecreasingBy (λ (pair : ℕ × ℕ). pair.0) fold_pairs
fold_pairs-rise = rise (0, 0) fold_pairs pairs_rise-fold_pairs

-- the pair that passes a test
pub some_of : {X : Type 0} (p : X → Bool) (xs : List X) → list_any p xs ≡ true → (x : X) × Contains xs x × (p x ≡ true)
some_of p [] h = cc
some_of p (x ∷ xs) h = elim (p x) as (λ b. p x ≡ b → (y : _) × Contains (x ∷ xs) y × (p y ≡ true)) [
  | true ↦ λ is. (x, (0, omega arith, refl), is)
  | false ↦ λ is.
      let rest = some_of p xs (sym (ap (λ b. b || list_any p xs) is) ∙ h) in
      (rest.0, (suc rest.1.0, omega (arith, rest.1.1), rest.1.2), rest.2)
] refl

pub contained : {X : Type 0} (p : X → Bool) (xs : List X) (x : X) → Contains xs x → p x ≡ true → list_any p xs ≡ true
contained p xs x at h = list_any_at p xs at.0 x at.1 (subst (λ y. p y ≡ true) (sym at.2) h)
