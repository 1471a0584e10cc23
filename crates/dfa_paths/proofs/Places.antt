-- Places and states in lists.
use Rattle.std.proofs.Common.{◌≡◌, ℕ, zero, suc, ◌<◌, ◌⊎◌, Bool, true, false, List, [], ◌∷◌, ◌++◌, length, Some}
use Rattle.std.proofs.Common.{refl, inl, inr, arith}
use Rattle.std.specs.Prelude.{◌||◌, slice_get, slice_index_or}
use Rattle.dfa_ends.specs.Ends.{Among}
use Rattle.dfa_paths.specs.declared.graph.Node.{Node}

pub among_first : (xs ys : List ℕ) (q : ℕ) → Among q xs → Among q (xs ++ ys)
unfolding Among
among_first [] ys q h = absurd h
among_first (x ∷ xs) ys q h = elim h [ inl a ↦ inl a | inr b ↦ inr (among_first xs ys q b) ]

pub among_second : (xs ys : List ℕ) (q : ℕ) → Among q ys → Among q (xs ++ ys)
unfolding Among
among_second [] ys q h = h
among_second (x ∷ xs) ys q h = inr (among_second xs ys q h)

pub among_append : (xs ys : List ℕ) (q : ℕ) → Among q (xs ++ ys) → Among q xs ⊎ Among q ys
unfolding Among
among_append [] ys q h = inr h
among_append (x ∷ xs) ys q h =
    elim h [
      | inl a ↦ inl (inl a)
      | inr b ↦ elim (among_append xs ys q b) [ inl c ↦ inl (inr c) | inr d ↦ inr d ]
    ]

pub among_one : (p q : ℕ) → Among p (q ∷ []) → p ≡ q
unfolding Among
among_one p q h = elim h [ inl a ↦ a | inr b ↦ absurd b ]

pub among_last : (xs : List ℕ) (q : ℕ) → Among q (xs ++ q ∷ [])
unfolding Among
among_last [] q = inl refl
among_last (x ∷ xs) q = inr (among_last xs q)

pub among_push : (xs : List ℕ) (y q : ℕ) → Among q (xs ++ y ∷ []) → Among q xs ⊎ (q ≡ y)
among_push xs y q h =
    elim (among_append xs (y ∷ []) q h) [ inl a ↦ inl a | inr b ↦ inr (among_one q y b) ]

never : false ≡ true → ⊥
never e = cc

pub or_left : (a b : Bool) → a ≡ true → (a || b) ≡ true
or_left true b e = refl
or_left false b e = absurd (never e)

pub or_right : (a b : Bool) → b ≡ true → (a || b) ≡ true
or_right true b e = refl
or_right false b e = e

pub or_cases : (a b : Bool) → (a || b) ≡ true → (a ≡ true) ⊎ (b ≡ true)
or_cases true b e = inl refl
or_cases false b e = inr e

pub among_at : (xs : List ℕ) (j d : ℕ) → j < length xs → Among (slice_index_or xs j d) xs
unfolding Among
among_at [] j d l = absurd (omega (arith, l))
among_at (x ∷ xs) zero d l = inl refl
among_at (x ∷ xs) (suc j) d l = inr (among_at xs j d (omega (arith, l)))

-- Reading a list.

pub get_of : (nodes : List Node) (q : ℕ) (d : Node) → q < length nodes →
    slice_get nodes q ≡ Some (slice_index_or nodes q d)
get_of [] q d l = absurd (omega (arith, l))
get_of (m ∷ ms) zero d l = refl
get_of (m ∷ ms) (suc q) d l = get_of ms q d (omega (arith, l))

pub get_in : (nodes : List Node) (q : ℕ) (n : Node) → slice_get nodes q ≡ Some n → q < length nodes
get_in [] q n e = cc
get_in (m ∷ ms) zero n e = omega arith
get_in (m ∷ ms) (suc q) n e = let r = get_in ms q n e in omega (arith, r)

pub read_is : (nodes : List Node) (q : ℕ) (d n : Node) → slice_get nodes q ≡ Some n →
    slice_index_or nodes q d ≡ n
read_is [] q d n e = cc
read_is (m ∷ ms) zero d n e = cc
read_is (m ∷ ms) (suc q) d n e = read_is ms q d n e

pub read_same : (nodes : List Node) (q : ℕ) (c d : Node) → q < length nodes →
    slice_index_or nodes q c ≡ slice_index_or nodes q d
read_same [] q c d l = absurd (omega (arith, l))
read_same (m ∷ ms) zero c d l = refl
read_same (m ∷ ms) (suc q) c d l = read_same ms q c d (omega (arith, l))
