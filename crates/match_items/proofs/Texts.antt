-- Texts compared as far as both go.
use Rattle.std.proofs.Common.{Bool, true, ◌≡◌, ℕ, ◌≤◌, List, [], ◌∷◌, length, drop, min, refl, ap, ◌∙◌, arith, inl, inr}
use Rattle.std.proofs.Math.ListN.{drop_of_length-le}
use Rattle.std.proofs.lemmas.Bool.{cases_lt}
use Rattle.match_items.specs.Scene.{Scene}
use Rattle.match_items.specs.Items.{same_front}

same_front-no : (g : Scene) (caseless : Bool) (xs : List ℕ) → same_front g caseless xs [] ≡ true
same_front-no g caseless [] = refl
same_front-no g caseless (x ∷ xs) = refl

-- past the shorter text nothing is left to compare
pub same_front-done : (g : Scene) (caseless : Bool) (xs ys : List ℕ) (i : ℕ) → min (length xs) (length ys) ≤ i
    → same_front g caseless (drop i xs) (drop i ys) ≡ true
same_front-done g caseless xs ys i h = elim (cases_lt i (length xs)) [
  | inr past ↦ ap (λ (zs : List ℕ). same_front g caseless zs (drop i ys)) (drop_of_length-le xs past)
  | inl within ↦ ap (λ (zs : List ℕ). same_front g caseless (drop i xs) zs) (drop_of_length-le ys (omega arith))
      ∙ same_front-no g caseless (drop i xs)
]
