-- The last component of a path, behind each of its slashes.
use Rattle.std.proofs.Common.{◌≡◌, ◌≢◌, ℕ, suc, ◌<◌, true, false, ◌||◌, List, [], ◌∷◌, ◌++◌, length, get_or, Option}
use Rattle.std.proofs.Common.{None, Some, MatchOption, ⊎_elim, refl, sym, ap, subst, ◌∙◌, arith, nat_eq}
use Rattle.std.specs.List.{list_any}
use Rattle.std.proofs.lemmas.Bool.{cases_Bool, cond-true, cond-false, eqb-true}
use denote.Ref.{Bor}
use Rattle.pcre2_tools.specs.Start.{last_component}

-- behind a slash
last-append : (front rest : List ℕ) → last_component (front ++ 47 ∷ rest) ≡ last_component rest
last-append [] rest = refl
last-append (c ∷ front) rest =
    cond-true (list_any (nat_eq 47) (c ∷ front ++ 47 ∷ rest)) (last_component (front ++ 47 ∷ rest))
    (c ∷ front ++ 47 ∷ rest) (has-slash (c ∷ front) rest) ∙ last-append front rest
  where
    has-slash : (front rest : List ℕ) → list_any (nat_eq 47) (front ++ 47 ∷ rest) ≡ true
    has-slash [] rest = refl
    has-slash (c ∷ front) rest = grind (arith, has-slash front rest)

-- without one
no-slash : (path : List ℕ) → ((i : ℕ) → i < length path → get_or path i 0 ≢ 47) → list_any (nat_eq 47) path ≡ false
no-slash [] none = refl
no-slash (c ∷ rest) none = ⊎_elim
    (λ (here : nat_eq 47 c ≡ true). absurd (none 0 (omega arith) (sym (eqb-true 47 c here))))
    (λ (other : nat_eq 47 c ≡ false). ap (λ b. b || list_any (nat_eq 47) rest) other
    ∙ no-slash rest (λ i less. none (suc i) (omega arith)))
    (cases_Bool (nat_eq 47 c))

last-alone : (path : List ℕ) → ((i : ℕ) → i < length path → get_or path i 0 ≢ 47) → last_component path ≡ path
last-alone [] none = refl
last-alone (c ∷ rest) none = cond-false (list_any (nat_eq 47) (c ∷ rest)) (last_component rest) (c ∷ rest)
    (no-slash (c ∷ rest) none)

abbrev Parts : List ℕ → Option (Bor (List ℕ) × Bor (List ℕ)) → Type 0
Parts path split = MatchOption split ((i : ℕ) → i < length path → get_or path i 0 ≢ 47)
    (λ x. (path ≡ x.0.now ++ (47 ∷ x.1.now)) × ((i : ℕ) → i < length x.0.now → get_or x.0.now i 0 ≢ 47))

pub last-whole : (path : List ℕ) (split : Option (Bor (List ℕ) × Bor (List ℕ))) → split ≡ None → Parts path split
    → path ≡ last_component path
last-whole path split is parts = sym (last-alone path (subst (Parts path) is parts))

pub last-behind : (path : List ℕ) (split : Option (Bor (List ℕ) × Bor (List ℕ))) (x : Bor (List ℕ) × Bor (List ℕ))
    → split ≡ Some x → Parts path split → last_component x.1.now ≡ last_component path
last-behind path split x is parts =
    let two = subst (Parts path) is parts in
    sym (ap last_component two.0 ∙ last-append x.0.now x.1.now)
