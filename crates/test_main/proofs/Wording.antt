-- The first of some words, and what words behind `-gen` come to.
use Rattle.std.proofs.Common.{◌≡◌, ◌∙◌, ℕ, ◌-◌, ◌≤◌, ◌<◌, List, [], ◌∷◌, length, take, drop, map, get_or, None, refl}
use Rattle.std.proofs.Common.{sym, ap, arith}
use Rattle.std.proofs.lemmas.List.{take_all, length-drop}
use Rattle.test_script.specs.declared.plan.TestPlan.{TestPlan}
use Rattle.test_main.specs.Words.{count_alone}

first-of : {A B : Type 0} (f : A → B) (xs : List A) (x : A) → 1 ≤ length xs → x ≡ get_or xs 0 x
    → map f xs ≡ f x ∷ map f (drop 1 xs)
first-of f [] x some is = absurd (omega arith)
first-of f (y ∷ ys) x some is = ap (λ z. f z ∷ map f ys) (sym is)

-- a first word, and the others
pub first-word : {A B : Type 0} (f : A → B) (xs : List A) (x : A) → 1 ≤ length xs → x ≡ get_or xs 0 x
    → map f xs ≡ f x ∷ map f (take (length xs - 1) (drop 1 xs))
first-word f xs x some is =
    first-of f xs x some is
    ∙ sym (ap (λ ys. f x ∷ map f ys) (take_all (length xs - 1) (drop 1 xs) (omega (arith, length-drop 1 xs))))

pub no-word : {A B : Type 0} (f : A → B) (xs : List A) → length xs < 1 → map f xs ≡ []
no-word f [] few = refl
no-word f (x ∷ xs) few = absurd (omega arith)

-- a word follows the number
pub count-late : {A : Type 0} (f : A → List ℕ) (plan : TestPlan) (xs : List A) → 2 ≤ length xs
    → count_alone plan (map f xs) ≡ None
count-late f plan [] late = absurd (omega arith)
count-late f plan (x ∷ []) late = absurd (omega arith)
count-late f plan (x ∷ y ∷ xs) late = refl
