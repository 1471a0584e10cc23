-- What is kept of each node, one after the other, and rounds over groups.
use Rattle.std.proofs.Common.{◌≡◌, ℕ, zero, suc, ◌<◌, ◌≤◌, List, [], ◌∷◌, ◌++◌, length, get_or, Option, All, inl}
use Rattle.std.proofs.Common.{inr, refl, sym, subst, arith, length-append}
use Rattle.std.proofs.lemmas.Bool.{cases_lt}
use Rattle.std.proofs.lemmas.List.{get_or_append_left, get_or_push}
use Rattle.std.proofs.lemmas.List.Elements.{All-head, All-tail}
use Rattle.pat_tree.specs.declared.nodes.Cond.{Cond}
use Rattle.pat_tree.specs.declared.nodes.Cond.TheVariants.{AnySet, InCall, InCallOf, Never, Assert}
use Rattle.pat_tree.specs.Rules.{tests_of, number_in}

-- one more
pub keep_more : {X : Type 0} (P : ℕ → X → Type 0) (xs : List X) (x d : X)
    → ((k : ℕ) → k < length xs → P k (get_or xs k d)) → P (length xs) x →
    (k : ℕ) → k < length (xs ++ x ∷ []) → P k (get_or (xs ++ x ∷ []) k d)
keep_more P xs x d kept new k l = elim (cases_lt k (length xs)) [
  | inl h ↦ subst (P k) (sym (get_or_append_left xs (x ∷ []) d k h)) (kept k h)
  | inr h ↦
      let e : k ≡ length xs = omega (arith, h, l, length-append xs (x ∷ [])) in
      rw (e, get_or_push xs x d (length xs) refl) new
]

-- what each step hands on holds at each later one
pub held : (P : ℕ → Type 0) → ((d : ℕ) → P d → P (suc d)) → (d e : ℕ) → d ≤ e → P d → P e
held P step d zero l h = let same : d ≡ zero = omega (arith, l) in subst P same h
held P step d (suc e) l h = elim (cases_lt e d) [
  | inl k ↦ let same : d ≡ suc e = omega (arith, l, k) in subst P same h
  | inr k ↦ step e (held P step d e k h)
]

-- what holds of each number that these name by a list holds of each of them
pub all_kept : (P : ℕ → Type 0) (ks : List ℕ) (n : ℕ) → ((k : ℕ) → k < n → P k) → All (λ k. k < n) ks → All P ks
all_kept P ks n h below = λ i d l. h (get_or ks i d) (below i d l)

pub one_kept : (P : ℕ → Type 0) (k n : ℕ) → ((k : ℕ) → k < n → P k) → All (λ k. k < n) (k ∷ []) → P k
one_kept P k n h below = h k (All-head (λ k. k < n) k [] below)

-- what holds of all children of a condition holds of its branches
pub branches_all : (P : ℕ → Type 0) (test : Cond) (first : ℕ) (second : Option ℕ)
    → All P (tests_of test ++ first ∷ number_in second) → All P (first ∷ number_in second)
branches_all P (AnySet groups) first second h = h
branches_all P InCall first second h = h
branches_all P (InCallOf groups) first second h = h
branches_all P Never first second h = h
branches_all P (Assert k) first second h = All-tail P k (first ∷ number_in second) h
