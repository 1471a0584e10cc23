-- A loose node is no child of another.
use Rattle.std.specs.List.{list_any, IsDistinct}
use Rattle.std.proofs.Common.{Bool, true, false, not, ◌||◌, ◌&&◌, ◌==◌, ◌≡◌, ℕ, suc, ◌+◌, ◌<◌, ◌≤◌, List, [], ◌∷◌}
use Rattle.std.proofs.Common.{◌++◌, length, refl, sym, ap, ◌∙◌, append_assoc, append-nil, arith, if◌then◌else◌}
use Rattle.std.proofs.Common.{nat_eq, nat_lt, nat_le, All, subst, ◌⊎◌, inl, inr}
use Rattle.std.proofs.Math.Bool.{or-false, or-true}
use Rattle.std.proofs.lemmas.Bool.Decides.{nat_tests}
use Rattle.std.proofs.lemmas.Cmp.{nat_eq_equiv}
use Rattle.std.proofs.lemmas.List.Elements.{All-head, All-tail}
use Rattle.std.proofs.lemmas.List.Folds.{list_any-append}
use Rattle.std.proofs.lemmas.Map.Keys.{IsDistinct-push}
use Rattle.pat_tree.specs.declared.nodes.Placed.{Placed}
use Rattle.pat_tree.specs.Rules.{kids_of}
use Rattle.pat_tree.specs.Refs.{is_in}
use Rattle.pat_tree.specs.Growing.{without, loose_after, loose, is_fresh, AreBelow}
use Rattle.pat_tree.specs.Sound.{children}

-- numbers below n have none that is at least n
above : (k n : ℕ) (ks : List ℕ) → n ≤ k → All (λ x. x < n) ks → is_in k ks ≡ false
above k n [] h all = refl
above k n (x ∷ xs) h all =
    let small : x < n = All-head (λ y. y < n) x xs all in
    let other : (x == k) ≡ false = grind (arith, nat_tests) in
    rw (other, above k n xs h (All-tail (λ y. y < n) x xs all)) refl

-- where x is k, and k is in the list or not, what one test says of the other
equal_or_not : (x k : ℕ) → (x ≡ k) ⊎ ((x == k) ≡ false)
equal_or_not x k = grind (arith, nat_tests)

in_without : (k : ℕ) (ks xs : List ℕ) → is_in k (without ks xs) ≡ (is_in k xs && not (is_in k ks))
in_without k ks [] = refl
in_without k ks (x ∷ xs) =
    let ih = in_without k ks xs in
    let one : (t : Bool) → is_in x ks ≡ t → is_in k (if t then without ks xs else x ∷ without ks xs)
    ≡ ((x == k || is_in k xs) && not (is_in k ks)) =
    λ t e. elim t as (λ u. t ≡ u → is_in k (if u then without ks xs else x ∷ without ks xs)
    ≡ ((x == k || is_in k xs) && not (is_in k ks))) [
      | true ↦ λ u. elim (equal_or_not x k) [
        | inl same ↦ (let there : is_in k ks ≡ true = subst (λ y. is_in y ks ≡ true) same (e ∙ u) in
            rw (ih, there) (grind arith))
        | inr other ↦ rw (ih, other) refl
      ]
      | false ↦ λ u. elim (equal_or_not x k) [
        | inl same ↦ (let there : is_in k ks ≡ false = subst (λ y. is_in y ks ≡ false) same (e ∙ u) in
            rw (ih, there) (grind arith))
        | inr other ↦ rw (ih, other) refl
      ]
    ] refl in
    one (is_in x ks) refl

in_push : (k n : ℕ) (xs : List ℕ) → is_in k (xs ++ n ∷ []) ≡ (is_in k xs || n == k)
in_push k n xs = list_any-append (λ x. x == k) xs (n ∷ []) ∙ ap (λ t. is_in k xs || t) (or-false (n == k))

split : (k n l : ℕ) (a b c : Bool) → (n ≤ k → b ≡ false) →
    ((((a && not b) || n == k) || (nat_le (n + 1) k && nat_lt k (n + 1 + l))) && not c)
    ≡ ((a || (nat_le n k && nat_lt k (n + suc l))) && not (b || c))
split k n l a true c h = let less : k < n = grind (arith, nat_tests, h) in grind (arith, nat_tests)
split k n l true false c h = grind (arith, nat_tests)
split k n l false false c h = grind (arith, nat_tests)

-- what is loose after some nodes: what was loose before or is one of them, and no child of these
loose_after_is : (k n : ℕ) (before : List ℕ) (ps : List Placed) → AreBelow n ps →
    is_in k (loose_after n before ps) ≡ ((is_in k before || (nat_le n k && nat_lt k (n + length ps))) && not
    (is_in k (children ps)))
unfolding loose_after children
loose_after_is k n before [] below = grind (arith, nat_tests)
loose_after_is k n before (p ∷ ps) below =
    let free = without (kids_of p.node) before in
    let ih = loose_after_is k (n + 1) (free ++ n ∷ []) ps below.1 in
    let pushed = in_push k n free in
    let kept = in_without k (kids_of p.node) before in
    let joined : is_in k (kids_of p.node ++ children ps) ≡ (is_in k (kids_of p.node) || is_in k (children ps)) =
    list_any-append (λ x. x == k) (kids_of p.node) (children ps) in
    let old : n ≤ k → is_in k (kids_of p.node) ≡ false = λ h. above k n (kids_of p.node) h below.0 in
    rw (ih, pushed, kept, joined) (split k n (length ps) (is_in k before) (is_in k (kids_of p.node))
    (is_in k (children ps)) old)

-- the loose nodes are those that are no child
pub loose_is : (k : ℕ) (ps : List Placed) → AreBelow 0 ps
    → is_in k (loose ps) ≡ (nat_lt k (length ps) && not (is_in k (children ps)))
unfolding loose
loose_is k ps below = grind (arith, nat_tests, loose_after_is k 0 [] ps below)

flipped : (k : ℕ) (xs : List ℕ) → list_any (nat_eq k) xs ≡ is_in k xs
flipped k [] = refl
flipped k (x ∷ xs) = let one : nat_eq k x ≡ (x == k) = grind (arith, nat_tests) in rw (one, flipped k xs) refl

all_three : (a b c : Bool) → (a && not b && c) ≡ true → (a ≡ true) × (b ≡ false) × (c ≡ true)
all_three true false true h = (refl, refl, refl)
all_three true false false h = absurd (grind arith)
all_three true true c h = absurd (grind arith)
all_three false b c h = absurd (grind arith)

clash : (a : Bool) → a ≡ true → a ≡ false → ⊥
clash true e f = cc
clash false e f = cc

-- numbers of which none is in the list and none comes twice
module _ (free : List ℕ) where
  fresh_after : (xs ks : List ℕ) → IsDistinct nat_eq xs → is_fresh free ks ≡ true
      → ((k : ℕ) → is_in k free ≡ true → is_in k ks ≡ true → is_in k xs ≡ false) → IsDistinct nat_eq (xs ++ ks)
  fresh_after xs [] distinct fresh apart = subst (IsDistinct nat_eq) (sym (append-nil xs)) distinct
  fresh_after xs (k ∷ ks) distinct fresh apart =
      let here : (is_in k free ≡ true) × (is_in k ks ≡ false) × (is_fresh free ks ≡ true) =
      all_three (is_in k free) (is_in k ks) (is_fresh free ks) fresh in
      let first : is_in k (k ∷ ks) ≡ true = grind (arith, nat_tests) in
      let now : IsDistinct nat_eq (xs ++ k ∷ []) = IsDistinct-push nat_eq_equiv xs k distinct
      (flipped k xs ∙ apart k here.0 first) in
      let later : (j : ℕ) → is_in j free ≡ true → is_in j ks ≡ true → is_in j (xs ++ k ∷ []) ≡ false =
      λ j f i. elim (equal_or_not k j) [
        | inl same ↦ absurd (clash (is_in k ks) (subst (λ y. is_in y ks ≡ true) (sym same) i) here.1)
        | inr other ↦ in_push j k xs ∙ rw (other, apart j f (rw i (or-true (k == j)))) refl
      ] in
      subst (IsDistinct nat_eq) (append_assoc xs (k ∷ []) ks) (fresh_after (xs ++ k ∷ []) ks now here.2 later)

no_child : (a b : Bool) → (a && not b) ≡ true → b ≡ false
no_child a false h = refl
no_child true true h = absurd (grind arith)
no_child false true h = absurd (grind arith)

pub still_distinct : (ps : List Placed) (ks : List ℕ) → AreBelow 0 ps → IsDistinct nat_eq (children ps)
    → is_fresh (loose ps) ks ≡ true → IsDistinct nat_eq (children ps ++ ks)
still_distinct ps ks below distinct fresh = fresh_after (loose ps) (children ps) ks distinct fresh
    (λ k free taken. no_child (nat_lt k (length ps)) (is_in k (children ps)) (sym (loose_is k ps below) ∙ free))
