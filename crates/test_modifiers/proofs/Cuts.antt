-- Lists cut at commas.
use Rattle.std.proofs.Common.{◌≡◌, ℕ, ◌+◌, ◌<◌, ◌≤◌, Bool, true, false, cond, ltb, List, [], ◌∷◌, length, take, drop}
use Rattle.std.proofs.Common.{Some, None, refl, ap, ◌∙◌, arith}
use Rattle.std.specs.List.{position, position_or_len, slice_split}
use Rattle.std.proofs.lemmas.List.Splits.{slice_split_first, slice_split-cons_no}
use borrow.Author.Tests.{ltb-true, ltb-false}

given_place : (n m i : ℕ) (b : Bool) → ltb n m ≡ b → cond b (Some n) None ≡ Some i → (n < m) × (n ≡ i)
given_place n m i true less same = (ltb-true n m less, cc)
given_place n m i false less same = cc

no_place : (n m : ℕ) (b : Bool) → ltb n m ≡ b → cond b (Some n) None ≡ None → m ≤ n
no_place n m true less same = cc
no_place n m false less same = ltb-false n m less

pub split_at_place : (p : ℕ → Bool) (xs : List ℕ) (i : ℕ) → position p xs ≡ Some i
    → slice_split p xs ≡ take i xs ∷ slice_split p (drop (i + 1) xs)
split_at_place p xs i found =
    let at = given_place (position_or_len p xs) (length xs) i (ltb (position_or_len p xs) (length xs)) refl found in
    slice_split_first p xs 0 at.0 ∙ ap (λ n. take n xs ∷ slice_split p (drop (n + 1) xs)) at.1

one_more : (p : ℕ → Bool) (x : ℕ) (xs : List ℕ) (here : Bool) → p x ≡ here
    → length (x ∷ xs) ≤ position_or_len p (x ∷ xs) → (length xs ≤ position_or_len p xs → slice_split p xs ≡ xs ∷ [])
    → slice_split p (x ∷ xs) ≡ (x ∷ xs) ∷ []
one_more p x xs true e past rest = absurd (grind arith)
one_more p x xs false e past rest = rw (slice_split-cons_no p x xs e, rest (grind arith)) refl

split_past : (p : ℕ → Bool) (xs : List ℕ) → length xs ≤ position_or_len p xs → slice_split p xs ≡ xs ∷ []
split_past p [] past = refl
split_past p (x ∷ xs) past = one_more p x xs (p x) refl past (split_past p xs)

pub split_nowhere : (p : ℕ → Bool) (xs : List ℕ) → position p xs ≡ None → slice_split p xs ≡ xs ∷ []
split_nowhere p xs none =
    split_past p xs (no_place (position_or_len p xs) (length xs) (ltb (position_or_len p xs) (length xs)) refl none)
