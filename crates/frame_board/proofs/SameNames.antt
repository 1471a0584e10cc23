-- Verbs' names by their numbers.
use Rattle.std.proofs.Common.{◌≡◌, ◌≤◌, ◌==◌, ◌&&◌, ◌∙◌, ℕ, zero, suc, Bool, List, [], ◌∷◌, Some, length, slice_get}
use Rattle.std.proofs.Common.{slice_index_or, bytes_eq, refl, ap, arith}
use Rattle.frame_state.specs.ordered_search.Parts.{same_text}

-- they are the same where their bytes are
same_bytes : (xs ys : List ℕ) → bytes_eq xs ys ≡ same_text xs ys
same_bytes [] [] = refl
same_bytes [] (y ∷ ys) = refl
same_bytes (x ∷ xs) [] = refl
same_bytes (x ∷ xs) (y ∷ ys) = ap (λ (b : Bool). (x == y) && b) (same_bytes xs ys)

pub name_read : (names : List (List ℕ)) (i : ℕ) (name : List ℕ) → slice_get names i ≡ Some name
    → name ≡ slice_index_or names i []
name_read [] i name e = cc
name_read (m ∷ ms) zero name e = cc
name_read (m ∷ ms) (suc i) name e = name_read ms i name e

pub name_missed : (names : List (List ℕ)) (i : ℕ) → length names ≤ i → [] ≡ slice_index_or names i []
name_missed [] i le = refl
name_missed (m ∷ ms) zero le = absurd (omega (arith, le))
name_missed (m ∷ ms) (suc i) le = name_missed ms i (omega (arith, le))

-- two of them are the same where their bytes are
pub names_same : (names : List (List ℕ)) (i j : ℕ) (xs ys : List ℕ) (b : Bool) → b ≡ bytes_eq xs ys
    → xs ≡ slice_index_or names i [] → ys ≡ slice_index_or names j []
    → b ≡ same_text (slice_index_or names i []) (slice_index_or names j [])
names_same names i j xs ys b e x y =
    e
    ∙ same_bytes xs ys
    ∙ ap (λ (zs : List ℕ). same_text zs ys) x
    ∙ ap (λ (zs : List ℕ). same_text (slice_index_or names i []) zs) y
