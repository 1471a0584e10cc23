-- The greatest number of a group is how many were opened.
use Rattle.std.proofs.Common.{◌≡◌, ◌⊎◌, inl, inr, ℕ, ◌<◌, ◌≤◌, ◌||◌, max, false, true, List, [], ◌∷◌, ◌++◌, refl}
use Rattle.std.proofs.Common.{sym, ap, subst, ◌∙◌, ⊎_elim, arith}
use Rattle.std.proofs.lemmas.Bool.{cases_lt, eq-eqb}
use Rattle.std.proofs.lemmas.Bool.Decides.{nat_tests}
use Rattle.pat_tree.specs.declared.nodes.Placed.{Placed}
use Rattle.pat_tree.specs.Rules.{numbers_of}
use Rattle.pat_tree.specs.Refs.{has_group, is_in}
use Rattle.pat_tree.specs.Sound.{greatest, group_numbers}
use Rattle.pat_grammar.specs.Groups.{is_opened}

in_append : (n : ℕ) (xs ys : List ℕ) → is_in n (xs ++ ys) ≡ (is_in n xs || is_in n ys)
in_append n [] ys = refl
in_append n (x ∷ xs) ys = grind (arith, in_append n xs ys)

has_number : (ps : List Placed) (n : ℕ) → has_group ps n ≡ is_in n (group_numbers ps)
unfolding group_numbers
has_number [] n = refl
has_number (p ∷ ps) n = ap (λ b. is_in n (numbers_of p.node) || b) (has_number ps n)
    ∙ sym (in_append n (numbers_of p.node) (group_numbers ps))

in_below : (n : ℕ) (ks : List ℕ) → is_in n ks ≡ true → n ≤ greatest ks
in_below n [] is = cc
in_below n (k ∷ ks) is = grind (arith, nat_tests, in_below n ks)

greatest_in : (ks : List ℕ) → (greatest ks ≡ 0) ⊎ (is_in (greatest ks) ks ≡ true)
greatest_in [] = inl refl
greatest_in (k ∷ ks) =
    ⊎_elim (λ less.
    let is : max k (greatest ks) ≡ greatest ks = omega (arith, less) in
    ⊎_elim (λ none. absurd (omega (arith, less, none)))
    (λ there. inr (subst (λ g. is_in g (k ∷ ks) ≡ true) (sym is) (later (greatest ks) there))) (greatest_in ks))
    (λ most.
    let is : max k (greatest ks) ≡ k = omega (arith, most) in
    inr (subst (λ g. is_in g (k ∷ ks) ≡ true) (sym is) (ap (λ b. b || is_in k ks) (eq-eqb k k refl))))
    (cases_lt k (greatest ks))
  where
    later : (g : ℕ) → is_in g ks ≡ true → is_in g (k ∷ ks) ≡ true
    later g there = grind (arith, there)

opened_above : (groups n : ℕ) → is_opened groups n ≡ true → n ≤ groups
opened_above groups n is = grind (arith, nat_tests)

opened_last : (groups : ℕ) → 0 < groups → is_opened groups groups ≡ true
opened_last groups some = grind (arith, nat_tests)

pub greatest_is : (ps : List Placed) (groups : ℕ) → ((n : ℕ) → has_group ps n ≡ is_opened groups n)
    → greatest (group_numbers ps) ≡ groups
greatest_is ps groups same =
    let g : ℕ = greatest (group_numbers ps) in
    let low : g ≤ groups =
    ⊎_elim (λ none. omega (arith, none)) (λ there. opened_above groups g (sym (same g) ∙ has_number ps g ∙ there))
    (greatest_in (group_numbers ps)) in
    let high : groups ≤ g =
    ⊎_elim (λ some. in_below groups (group_numbers ps) (sym (has_number ps groups) ∙ same groups
    ∙ opened_last groups some)) (λ none. omega (arith, none)) (cases_lt 0 groups) in
    omega (arith, low, high)

none_opened : (n : ℕ) → false ≡ is_opened 0 n
none_opened n = grind (arith, nat_tests)

pub greatest_none : (ps : List Placed) → ((n : ℕ) → has_group ps n ≡ false) → greatest (group_numbers ps) ≡ 0
greatest_none ps none = greatest_is ps 0 (λ n. none n ∙ none_opened n)
