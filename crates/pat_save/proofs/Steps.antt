-- One more item of a list that is written.
use Rattle.std.proofs.Common.{◌≡◌, ℕ, ◌+◌, ◌<◌, List, [], ◌∷◌, ◌++◌, length, get_or, take, sym, ap, ◌∙◌}
use Rattle.std.proofs.Common.{append_assoc, append-nil, Some, Result, Ok, Err, ◌⊎◌, inl, inr, subst, arith, All, ◌≤◌}
use Rattle.std.specs.Result.{OnOk}
use Rattle.std.proofs.lemmas.List.{take_more}
use Rattle.std.proofs.lemmas.List.Concat.{flat_map-append}
use Rattle.std.proofs.lemmas.Option.{get_or_from_slice_get, slice_get_within}
use Rattle.std.specs.List.{AllWithin, flat_map, slice_get}

pub written_more : {A : Type 0} (f : A → List ℕ) (xs : List A) (i : ℕ) (d : A) (start now : List ℕ)
    → i < length xs → now ≡ start ++ flat_map f (take i xs)
    → now ++ f (get_or xs i d) ≡ start ++ flat_map f (take (i + 1) xs)
written_more f xs i d start now lt so_far =
    let one : flat_map f (take (i + 1) xs) ≡ flat_map f (take i xs) ++ f (get_or xs i d) =
    ap (flat_map f) (take_more xs i d lt) ∙ flat_map-append f (take i xs) (get_or xs i d ∷ [])
    ∙ ap (λ ys. flat_map f (take i xs) ++ ys) (append-nil (f (get_or xs i d))) in
    ap (λ ys. ys ++ f (get_or xs i d)) so_far ∙ append_assoc start (flat_map f (take i xs)) (f (get_or xs i d))
    ∙ ap (λ ys. start ++ ys) (sym one)

pub written_item : {A : Type 0} (f : A → List ℕ) (xs : List A) (i : ℕ) (x : A) (start now : List ℕ)
    → slice_get xs i ≡ Some x → now ≡ start ++ flat_map f (take i xs)
    → now ++ f x ≡ start ++ flat_map f (take (i + 1) xs)
written_item f xs i x start now there so_far =
    ap (λ y. now ++ f y) (sym (get_or_from_slice_get xs i x x there))
    ∙ written_more f xs i x start now (slice_get_within xs i x there) so_far

regrouped : (old a b c d : List ℕ) → (((old ++ a) ++ b) ++ c) ++ d ≡ old ++ (((a ++ b) ++ c) ++ d)
regrouped old a b c d = simp append_assoc

-- four pieces that were written one after the other are one text
pub written_as_one : {T E : Type 0} (r : Result T E) (new old a b c d : List ℕ)
    → OnOk r (new ≡ (((old ++ a) ++ b) ++ c) ++ d) → OnOk r (new ≡ old ++ (((a ++ b) ++ c) ++ d))
written_as_one (Ok x) new old a b c d e = e ∙ regrouped old a b c d
written_as_one (Err x) new old a b c d e = tt

-- what holds of the items before one and of this one holds of one more
pub within_more : {A : Type 0} (P : A → Type 0) (xs : List A) (i : ℕ) (x : A) → i < length xs
    → ((d : A) → get_or xs i d ≡ x) → P x → AllWithin P xs 0 i → AllWithin P xs 0 (i + 1)
within_more P xs i x lt is holds before k d low less =
    let cases : (k < i) ⊎ (k ≡ i) = grind arith in
    elim cases [
      | inl earlier ↦ before k d low earlier
      | inr same ↦ subst P (sym (ap (λ j. get_or xs j d) same ∙ is d)) holds
    ]

pub within_item : {A : Type 0} (P : A → Type 0) (xs : List A) (i : ℕ) (x : A) → slice_get xs i ≡ Some x → P x
    → AllWithin P xs 0 i → AllWithin P xs 0 (i + 1)
within_item P xs i x there holds before =
    within_more P xs i x (slice_get_within xs i x there) (λ d. get_or_from_slice_get xs i x d there) holds before

pub within_all : {A : Type 0} (P : A → Type 0) (xs : List A) (n : ℕ) → length xs ≤ n → AllWithin P xs 0 n → All P xs
within_all P xs n least all i d lt = all i d (omega arith) (omega (arith, lt, least))
