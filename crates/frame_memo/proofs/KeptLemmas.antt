-- What slots keep, slot by slot.
use Rattle.std.proofs.Common.{◌≡◌, ◌<◌, ℕ, zero, suc, Bool, true, false, cond, List, [], ◌∷◌, Option, Some, None}
use Rattle.std.proofs.Common.{All, length}
use Rattle.std.proofs.Common.{get_or, set, refl, inl, inr, ⊎_elim, arith}
use Rattle.std.specs.List.{Contains, cons_option}
use Rattle.std.proofs.lemmas.Bool.{cases_eq}
use Rattle.std.proofs.lemmas.List.{length-set, get_or-set_same, get_or-set_other}
use Rattle.std.proofs.lemmas.List.Elements.{All-nil, All-cons, All-contains, All-contains_itself}
use Rattle.frame_memo.specs.declared.failure.Failure.{Failure}
use Rattle.frame_memo.specs.declared.slots.Slot.{Slot}
use Rattle.frame_memo.specs.Slots.{blank, failure_of, failure_in, kept}

-- a slot in use
abbrev pub IsUsed : List Slot → ℕ → Type 0
IsUsed slots i = (get_or slots i blank).is_used ≡ true

Contains-head : (x : Failure) (xs : List Failure) → Contains (x ∷ xs) x
Contains-head x xs = (0, omega arith, refl)

Contains-later : (y : Failure) (xs : List Failure) (x : Failure) → Contains xs x → Contains (y ∷ xs) x
Contains-later y xs x h = let l = h.1 in (suc h.0, omega arith, h.2)

Contains-with : (o : Option Failure) (xs : List Failure) (x : Failure) → Contains xs x → Contains (cons_option o xs) x
Contains-with None xs x h = h
Contains-with (Some y) xs x h = Contains-later y xs x h

-- a slot in use is kept
pub Contains-kept : (slots : List Slot) (i : ℕ) → i < length slots → IsUsed slots i
    → Contains (kept slots) (failure_of (get_or slots i blank))
Contains-kept [] i l u = absurd (omega arith)
Contains-kept (s ∷ rest) zero l u = rw u (Contains-head (failure_of s) (kept rest))
Contains-kept (s ∷ rest) (suc i) l u =
    Contains-with (failure_in s) (kept rest) _ (Contains-kept rest i (omega arith) u)

All-one : (P : Failure → Type 0) (b : Bool) (f : Failure) (xs : List Failure) → (b ≡ true → P f) → All P xs
    → All P (cons_option (cond b (Some f) None) xs)
All-one P true f xs h hs = All-cons P f xs (h refl) hs
All-one P false f xs h hs = hs

-- and nothing else is
pub All-kept : (P : Failure → Type 0) (slots : List Slot)
    → ((i : ℕ) → i < length slots → IsUsed slots i → P (failure_of (get_or slots i blank))) → All P (kept slots)
All-kept P [] h = All-nil P
All-kept P (s ∷ rest) h =
    let first : s.is_used ≡ true → P (failure_of s) = h 0 (omega arith) in
    All-one P s.is_used (failure_of s) (kept rest) first (All-kept P rest (λ i l. h (suc i) (omega arith)))

-- after a write into a slot
pub Contains-written : (slots : List Slot) (i : ℕ) (s : Slot) → i < length slots → s.is_used ≡ true
    → Contains (kept (set slots i s)) (failure_of s)
Contains-written slots i s l u =
    let same : get_or (set slots i s) i blank ≡ s = get_or-set_same slots i s blank l in
    let within : i < length (set slots i s) = rw length-set l in
    let used : IsUsed (set slots i s) i = rw same u in
    rw same at (Contains-kept (set slots i s) i within used)

-- all that is kept after a write was kept before it, or was written
pub All-written : (P : Failure → Type 0) (slots : List Slot) (i : ℕ) (s : Slot) → i < length slots
    → (s.is_used ≡ true → P (failure_of s)) → All P (kept slots) → All P (kept (set slots i s))
All-written P slots i s l here all =
    All-kept P (set slots i s) (λ (k : ℕ) (kl : k < length (set slots i s)) (u : IsUsed (set slots i s) k).
    elim (cases_eq k i) as (λ _. P (failure_of (get_or (set slots i s) k blank))) [
      | inl e ↦
          let same : get_or (set slots i s) k blank ≡ s = rw e (get_or-set_same slots i s blank l) in
          rw same (here (rw same at u))
      | inr n ↦
          let other : get_or (set slots i s) k blank ≡ get_or slots k blank =
          get_or-set_other slots i k s blank n in
          let before : k < length slots = rw length-set at kl in
          let was : Contains (kept slots) (failure_of (get_or slots k blank)) =
          Contains-kept slots k before (rw other at u) in
          rw other (All-contains P (kept slots) _ all was)
    ])

-- with a further failure
pub All-older : (f : Failure) (xs : List Failure) → All (Contains (f ∷ xs)) xs
All-older f xs = λ k d l. Contains-later f xs _ (All-contains_itself xs k d l)

pub All-through : (xs ys zs : List Failure) → All (Contains xs) ys → All (Contains ys) zs → All (Contains xs) zs
All-through xs ys zs h g = λ k d l. All-contains (Contains xs) ys _ h (g k d l)

pub All-joined : (f : Failure) (xs ys zs : List Failure) → All (Contains xs) ys → All (Contains (f ∷ ys)) zs
    → All (Contains (f ∷ xs)) zs
All-joined f xs ys zs h g =
    let older : All (Contains (f ∷ xs)) ys = λ k d l. Contains-later f xs _ (h k d l) in
    All-through (f ∷ xs) (f ∷ ys) zs (All-cons (Contains (f ∷ xs)) f ys (Contains-head f xs) older) g

-- in slots of which each in use is one of the old
pub All-resized : (old new : List Slot)
    → ((k : ℕ) → k < length new → IsUsed new k → (k < length old) × (get_or new k blank ≡ get_or old k blank))
    → All (Contains (kept old)) (kept new)
All-resized old new h =
    All-kept (Contains (kept old)) new (λ (k : ℕ) (l : k < length new) (u : IsUsed new k).
    let same : get_or new k blank ≡ get_or old k blank = (h k l u).1 in
    rw same (Contains-kept old k (h k l u).0 (rw same at u)))

-- all that is kept after a write was kept before it, with what was written
pub All-stored : (slots : List Slot) (i : ℕ) (s : Slot) → i < length slots
    → All (Contains (failure_of s ∷ kept slots)) (kept (set slots i s))
All-stored slots i s l =
    All-written (Contains (failure_of s ∷ kept slots)) slots i s l (λ u. Contains-head (failure_of s) (kept slots))
    (All-older (failure_of s) (kept slots))

-- and after a slot went elsewhere
pub All-moved : (slots : List Slot) (i j : ℕ) (s : Slot) → i < length slots → j < length slots
    → get_or slots i blank ≡ s → All (Contains (kept slots)) (kept (set (set slots i blank) j s))
All-moved slots i j s l jl e =
    let jl' : j < length (set slots i blank) = rw length-set jl in
    let emptied : All (Contains (kept slots)) (kept (set slots i blank)) =
    All-written (Contains (kept slots)) slots i blank l (λ u. cc) (All-contains_itself (kept slots)) in
    let here : s.is_used ≡ true → Contains (kept slots) (failure_of s) =
    λ u. rw e at (Contains-kept slots i l (rw e u)) in
    All-written (Contains (kept slots)) (set slots i blank) j s jl' here emptied
