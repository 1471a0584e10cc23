-- The pile as what is read of it.
use Rattle.std.proofs.Common.{◌≡◌, ℕ, ◌-◌, ◌≤◌, Bool, false, List, [], ◌∷◌, ◌++◌, length, drop, map, Some, refl, sym}
use Rattle.std.proofs.Common.{ap, ◌∙◌}
use Rattle.std.proofs.Common.{arith, zero, suc, take, length-drop, Option}
use Rattle.std.specs.Prelude.{nat_lt}
use Rattle.std.proofs.lemmas.Bool.Decides.{nat_tests}
use Rattle.std.proofs.lemmas.List.{drop-map, map-append}
use Rattle.pat_save.specs.declared.pile.Loose.{Loose}
use Rattle.pat_save.specs.Pile.{free_of, ids_of, serves}
use Rattle.pat_save.specs.ReadNodes.{Free, last_of, top_of}
use Rattle.pat_save.proofs.NodeForms.{ids_in, top_again}
use Rattle.pat_save.proofs.Forms.{found}

ids_free : (pile : List Loose) → ids_in (free_of pile) ≡ ids_of pile
ids_free [] = refl
ids_free (l ∷ pile) = ap (λ (ks : List ℕ). l.id ∷ ks) (ids_free pile)

length_free : (pile : List Loose) → length (free_of pile) ≡ length pile
length_free [] = refl
length_free (l ∷ pile) = ap suc (length_free pile)

take_nil : {A : Type 0} (n : ℕ) → take {A = A} n [] ≡ []
take_nil zero = refl
take_nil (suc n) = refl

take_whole : {A : Type 0} (xs : List A) (n : ℕ) → length xs ≤ n → take n xs ≡ xs
take_whole [] n le = take_nil n
take_whole (x ∷ xs) zero le = absurd (omega arith)
take_whole (x ∷ xs) (suc n) le = ap (λ l. x ∷ l) (take_whole xs n (omega arith))

-- what is taken of the rest is the rest
pub rest_whole : (pile : List Loose) (k : ℕ) → take (length pile - k) (drop k pile) ≡ drop k pile
rest_whole pile k = take_whole (drop k pile) (length pile - k) (omega (arith, length-drop k pile))

pub last_kids : (pile : List Loose) (count : ℕ) → count ≤ length pile
    → last_of count (free_of pile) ≡ Some (ids_of (drop (length pile - count) pile))
last_kids pile count enough =
    let long = length_free pile in
    let test : nat_lt (length (free_of pile)) count ≡ false = grind (arith, nat_tests) in
    let at : length (free_of pile) - count ≡ length pile - count = omega (arith, long) in
    rw (test, at) (ap (λ (f : Free). found (ids_in f))
    (drop-map (λ (l : Loose). (l.id, serves l.role)) (length pile - count) pile)
    ∙ ap found (ids_free (drop (length pile - count) pile)))

pub top_kid : (pile new : List Loose) (l : Loose) → pile ≡ new ++ l ∷ []
    → top_of (free_of pile) ≡ Some ((l.id, serves l.role), free_of new)
top_kid pile new l e =
    ap (λ (p : List Loose). top_of (free_of p)) e
    ∙ ap top_of (map-append (λ (l : Loose). (l.id, serves l.role)) new (l ∷ []))
    ∙ top_again (free_of new) (l.id, serves l.role)
