-- The oldest and the later records.
use Rattle.std.proofs.Common.{◌≡◌, ◌≤◌, ◌<◌, ◌-◌, ◌+◌, ℕ, suc, ◌∙◌, List, [], ◌∷◌, ◌++◌, length, take, drop, get_or}
use Rattle.std.proofs.Common.{reverse, map, slice_get, Some, sym, ap, arith}
use Rattle.std.proofs.lemmas.List.{reverse-append, length-reverse, length-drop, length-map, take-append-drop}
use Rattle.std.proofs.lemmas.List.{take-map, drop-map, take_more, drop_at, take_at, get_or_at, get_or_append_left}
use Rattle.std.proofs.lemmas.Option.{slice_get-get_or}
use Rattle.frame_store.specs.Stack.{up_to, past}

module _ {X : Type 0} where
  -- a list that has its oldest item first, the other way round
  pub reverse_split : (n : ℕ) (xs : List X) → reverse xs ≡ reverse (drop n xs) ++ reverse (take n xs)
  reverse_split n xs = ap reverse (sym (take-append-drop n xs)) ∙ reverse-append (take n xs) (drop n xs)

  pub up_to-reverse : (n : ℕ) (xs : List X) → n ≤ length xs → up_to n (reverse xs) ≡ reverse (take n xs)
  up_to-reverse n xs h =
      let len : length (reverse (drop n xs)) ≡ length (reverse xs) - n = length-reverse (drop n xs) ∙ length-drop n xs
      ∙ ap (λ k. k - n) (sym (length-reverse xs)) in
      ap (drop (length (reverse xs) - n)) (reverse_split n xs) ∙ drop_at _ _ _ len

  pub past-reverse : (n : ℕ) (xs : List X) → n ≤ length xs → past n (reverse xs) ≡ reverse (drop n xs)
  past-reverse n xs h =
      let len : length (reverse (drop n xs)) ≡ length (reverse xs) - n = length-reverse (drop n xs) ∙ length-drop n xs
      ∙ ap (λ k. k - n) (sym (length-reverse xs)) in
      ap (take (length (reverse xs) - n)) (reverse_split n xs) ∙ take_at _ _ _ len

  pub past-map : {Y : Type 0} (f : X → Y) (n : ℕ) (xs : List X) → past n (map f xs) ≡ map f (past n xs)
  past-map f n xs = ap (λ k. take (k - n) (map f xs)) (length-map xs f) ∙ take-map f (length xs - n) xs

  pub up_to-map : {Y : Type 0} (f : X → Y) (n : ℕ) (xs : List X) → up_to n (map f xs) ≡ map f (up_to n xs)
  up_to-map f n xs = ap (λ k. drop (k - n) (map f xs)) (length-map xs f) ∙ drop-map f (length xs - n) xs

  -- the newest of the first i items stands first
  pub reverse-take : (i : ℕ) (xs : List X) (d : X) → 0 < i → i ≤ length xs
      → reverse (take i xs) ≡ get_or xs (i - 1) d ∷ reverse (take (i - 1) xs)
  reverse-take i xs d p h =
      let e : i ≡ i - 1 + 1 = omega arith in
      ap (λ k. reverse (take k xs)) e ∙ ap reverse (take_more xs (i - 1) d (omega arith))
      ∙ reverse-append (take (i - 1) xs) (get_or xs (i - 1) d ∷ [])

  -- at or below its height a stack is as it was
  pub up_to-more : (n : ℕ) (x : X) (xs : List X) → n ≤ length xs → up_to n (x ∷ xs) ≡ up_to n xs
  up_to-more n x xs h =
      let e : length (x ∷ xs) - n ≡ suc (length xs - n) = omega arith in
      ap (λ k. drop k (x ∷ xs)) e

  pub up_to-all : (n : ℕ) (xs : List X) → length xs ≤ n → up_to n xs ≡ xs
  up_to-all n xs h =
      let e : length xs - n ≡ 0 = omega arith in
      ap (λ k. drop k xs) e

  pub past-more : (n : ℕ) (x : X) (xs : List X) → n ≤ length xs → past n (x ∷ xs) ≡ x ∷ past n xs
  past-more n x xs h =
      let e : length (x ∷ xs) - n ≡ suc (length xs - n) = omega arith in
      ap (λ k. take k (x ∷ xs)) e

  pub past-all : (n : ℕ) (xs : List X) → length xs ≤ n → past n xs ≡ []
  past-all n xs h =
      let e : length xs - n ≡ 0 = omega arith in
      ap (λ k. take k xs) e

  pub length-up_to : (n : ℕ) (xs : List X) → n ≤ length xs → length (up_to n xs) ≡ n
  length-up_to n xs h = omega (arith, length-drop (length xs - n) xs)

  reverse-cons : (x : X) (xs : List X) → reverse (x ∷ xs) ≡ reverse xs ++ x ∷ []
  reverse-cons x xs = reverse-append (x ∷ []) xs

  -- counted from the oldest, the newest item stands last
  pub slice_get-reverse-here : (x : X) (xs : List X) → slice_get (reverse (x ∷ xs)) (length xs) ≡ Some x
  slice_get-reverse-here x xs =
      let len : length (reverse (x ∷ xs)) ≡ suc (length xs) = length-reverse (x ∷ xs) in
      slice_get-get_or (reverse (x ∷ xs)) (length xs) x (omega (arith, len))
      ∙ ap (λ (ys : List X). Some (get_or ys (length xs) x)) (reverse-cons x xs)
      ∙ ap Some (get_or_at (reverse xs) x [] x (length xs) (length-reverse xs))

  -- and the others where they stood without it
  pub slice_get-reverse-below : (x : X) (xs : List X) (i : ℕ) → i < length xs
      → slice_get (reverse (x ∷ xs)) i ≡ slice_get (reverse xs) i
  slice_get-reverse-below x xs i h =
      let len : length (reverse xs) ≡ length xs = length-reverse xs in
      let more : length (reverse (x ∷ xs)) ≡ suc (length xs) = length-reverse (x ∷ xs) in
      slice_get-get_or (reverse (x ∷ xs)) i x (omega (arith, more, h))
      ∙ ap (λ (ys : List X). Some (get_or ys i x)) (reverse-cons x xs)
      ∙ ap Some (get_or_append_left (reverse xs) (x ∷ []) x i (omega (arith, len, h)))
      ∙ sym (slice_get-get_or (reverse xs) i x (omega (arith, len, h)))
