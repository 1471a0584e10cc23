-- A pair takes its place in the table of names.
use Rattle.std.specs.Cmp.Lexicographic.{slice_cmp}
use Rattle.std.proofs.lemmas.Bool.Decides.{nat_tests}
use Rattle.std.specs.List.{list_any, insert, All, AllByRecursion}
use Rattle.std.specs.List.Sorted.{IsStrictlySortedBy, IsBinarySearchResult, IsNonDecreasingBy, IsSearchInRange}
use Rattle.std.specs.Ordering.{nat_cmp, ordering_then, ordering_index, ordering_reverse, is_lt}
use Rattle.std.specs.Cmp.{IsTotalOrder}
use Rattle.std.specs.declared.cmp.Ordering.{Ordering}
use Rattle.std.specs.declared.cmp.Ordering.TheVariants.{Less, Equal, Greater}
use Rattle.std.proofs.Common.{Bool, true, ◌||◌, false, ◌≡◌, ℕ, zero, suc, ◌+◌, ◌<◌, ◌≤◌, List, [], ◌∷◌, length}
use Rattle.std.proofs.Common.{Result, Ok, Err, get_or, refl, sym, ap, ◌∙◌, arith, subst}
use Rattle.std.proofs.lemmas.Cmp.{on_total, then_total, nat_cmp_total, nat_list_cmp_total, alike_right}
use Rattle.std.proofs.lemmas.List.Elements.{All-get_or, All-from_recursion, recursion_from_All}
use Rattle.std.proofs.lemmas.List.Sorted.{searchable_from_sorted}
use Rattle.std.proofs.lemmas.Map.Keys.{Less-from_sorted}
use Rattle.pat_tree.specs.declared.names.NameEntry.{NameEntry}
use Rattle.pat_tree.specs.Names.{name_cmp, AreInOrder, with_name, IsFound}

name_total : IsTotalOrder name_cmp
name_total = then_total (on_total (λ e. e.name) nat_list_cmp_total) (on_total (λ e. e.group) nat_cmp_total)

-- a pair that is there changes nothing
there : (e : NameEntry) (xs : List NameEntry) (i : ℕ) (d : NameEntry) → AreInOrder xs → i < length xs
    → name_cmp (get_or xs i d) e ≡ Equal → with_name e xs ≡ xs
unfolding IsStrictlySortedBy
there e [] i d sorted h same = absurd (omega (arith, h))
there e (x ∷ xs) zero d sorted h same = rw (same, with_name) refl
there e (x ∷ xs) (suc i) d sorted h same =
    let inside : i < length xs = omega (arith, h) in
    let first : name_cmp x (get_or xs i d) ≡ Less = All-get_or (λ y. name_cmp x y ≡ Less) xs i d inside
    (All-from_recursion (λ y. name_cmp x y ≡ Less) xs sorted.0) in
    let less : name_cmp x e ≡ Less = sym (alike_right name_total (get_or xs i d) e x same) ∙ first in
    rw (less, with_name) (ap (λ ys. x ∷ ys) (there e xs i d sorted.1 inside same))

-- else it stands before the first that is greater
missing : (e : NameEntry) (xs : List NameEntry) (i : ℕ) (d : NameEntry) → i ≤ length xs →
    ((k : ℕ) → k < i → name_cmp (get_or xs k d) e ≡ Less) → (i < length xs → name_cmp (get_or xs i d) e ≡ Greater)
    → with_name e xs ≡ insert xs i e
missing e [] zero d h before after = refl
missing e [] (suc i) d h before after = absurd (omega (arith, h))
missing e (x ∷ xs) zero d h before after = let greater : name_cmp x e ≡ Greater = after (omega arith) in
    rw (greater, with_name) refl
missing e (x ∷ xs) (suc i) d h before after =
    let less : name_cmp x e ≡ Less = before 0 (omega arith) in
    rw (less, with_name)
    (ap (λ ys. x ∷ ys) (missing e xs i d (omega (arith, h)) (λ k m. before (suc k) (omega (arith, m)))
    (λ m. after (omega (arith, m)))))

reversed : (o : Ordering) (p : Ordering) → o ≡ ordering_reverse p → p ≡ Less → is_lt o ≡ false
reversed o Less e h = rw e refl
reversed o Equal e h = rw e refl
reversed o Greater e h = absurd cc

rising : (e : NameEntry) (xs : List NameEntry) → AreInOrder xs
    → IsNonDecreasingBy (λ x. ordering_index (name_cmp x e)) xs
rising e xs sorted = searchable_from_sorted name_total (λ x. x) xs e
    (λ k d low h. reversed (name_cmp (get_or xs (k + 1) d) (get_or xs k d))
    (name_cmp (get_or xs k d) (get_or xs (k + 1) d))
    (name_total.antisymm (get_or xs (k + 1) d) (get_or xs k d))
    (Less-from_sorted name_cmp xs k (k + 1) d sorted (omega arith) h))

pub found : (e : NameEntry) (xs : List NameEntry) (result : Result ℕ ℕ) → AreInOrder xs
    → IsSearchInRange result (length xs) → IsBinarySearchResult (λ x. name_cmp x e) xs result → IsFound result xs e
found e xs (Ok i) sorted within r = there e xs i e sorted within (r e)
found e xs (Err i) sorted within r =
    let parts = r (rising e xs sorted) in
    missing e xs i e within (λ k h. parts.0 k e (omega arith) h) (λ h. parts.1 i e (omega arith) h)

-- what holds of the entries and of the pair holds of the table with the pair
all_with : (P : NameEntry → Type 0) (e : NameEntry) (xs : List NameEntry) → P e → AllByRecursion P xs
    → AllByRecursion P (with_name e xs)
all_with P e [] one all = (one, tt)
all_with P e (x ∷ xs) one all =
    elim (name_cmp x e) as (λ o. AllByRecursion P
    (elim o [ Less ↦ x ∷ with_name e xs | Equal ↦ x ∷ xs | Greater ↦ e ∷ x ∷ xs ])) [
      | Less ↦ (all.0, all_with P e xs one all.1)
      | Equal ↦ all
      | Greater ↦ (one, all)
    ]

all_above : (e x : NameEntry) (xs : List NameEntry) → name_cmp e x ≡ Less
    → AllByRecursion (λ y. name_cmp x y ≡ Less) xs → AllByRecursion (λ y. name_cmp e y ≡ Less) xs
all_above e x [] less all = tt
all_above e x (y ∷ ys) less all = (name_total.trans e x y less all.0, all_above e x ys less all.1)

pub still_ordered : (e : NameEntry) (xs : List NameEntry) → AreInOrder xs → AreInOrder (with_name e xs)
unfolding IsStrictlySortedBy
still_ordered e [] sorted = (tt, tt)
still_ordered e (x ∷ xs) sorted =
    let at : (o : Ordering) → name_cmp x e ≡ o
    → AreInOrder (elim o [ Less ↦ x ∷ with_name e xs | Equal ↦ x ∷ xs | Greater ↦ e ∷ x ∷ xs ]) =
    λ o. elim o as (λ p. name_cmp x e ≡ p → AreInOrder
    (elim p [ Less ↦ x ∷ with_name e xs | Equal ↦ x ∷ xs | Greater ↦ e ∷ x ∷ xs ])) [
      | Less ↦ λ is. (all_with (λ y. name_cmp x y ≡ Less) e xs is sorted.0, still_ordered e xs sorted.1)
      | Equal ↦ λ is. sorted
      | Greater ↦ λ is. (let less : name_cmp e x ≡ Less = name_total.antisymm e x ∙ ap ordering_reverse is in
          ((less, all_above e x xs less sorted.0), sorted))
    ] in
    at (name_cmp x e) refl

pub still_ordered_at : (e f : NameEntry) (xs : List NameEntry) (i : ℕ) → with_name e xs ≡ insert xs i e → f ≡ e
    → AreInOrder xs → AreInOrder (insert xs i f)
still_ordered_at e f xs i is same sorted = rw same (subst AreInOrder is (still_ordered e xs sorted))

-- what holds of the names and of the pair holds of the names with the pair
pub all_named : (P : NameEntry → Type 0) (e : NameEntry) (xs : List NameEntry) → P e → All P xs → All P (with_name e xs)
all_named P e xs one all = All-from_recursion P (with_name e xs) (all_with P e xs one (recursion_from_All P xs all))

pub length_named : (e : NameEntry) (xs : List NameEntry) → length (with_name e xs) ≤ length xs + 1
length_named e [] = omega arith
length_named e (x ∷ xs) =
    let longer = length_named e xs in
    let P : Ordering → Type 0 = λ o. length {A = NameEntry}
    (elim o [ Less ↦ x ∷ with_name e xs | Equal ↦ x ∷ xs | Greater ↦ e ∷ x ∷ xs ]) ≤ length xs + 2 in
    let one : suc (length xs) + 1 ≡ length xs + 2 = omega arith in
    rw one (elim (name_cmp x e) as P [
      | Less ↦ (let less : suc (length (with_name e xs)) ≤ length xs + 2 = omega (arith, longer) in less)
      | Equal ↦ (let same : suc (length xs) ≤ length xs + 2 = omega arith in same)
      | Greater ↦
          (let more : suc (suc (length xs)) ≤ length xs + 2 = omega arith in more)
    ])

swapped : (a b c : Bool) → (a || (b || c)) ≡ (b || (a || c))
swapped true true c = refl
swapped true false c = refl
swapped false true c = refl
swapped false false c = refl

twice : (a c : Bool) → (a || c) ≡ (a || (a || c))
twice true c = refl
twice false c = refl

nat_same : (x y : ℕ) → nat_cmp x y ≡ Equal → x ≡ y
nat_same x y h = grind (arith, nat_tests, h)

both_equal : (o p : Ordering) → ordering_then o p ≡ Equal → (o ≡ Equal) × (p ≡ Equal)
both_equal Less p h = absurd cc
both_equal Equal p h = (refl, h)
both_equal Greater p h = absurd cc

bytes_same : (xs ys : List ℕ) → slice_cmp nat_cmp xs ys ≡ Equal → xs ≡ ys
bytes_same [] [] h = refl
bytes_same [] (y ∷ ys) h = absurd cc
bytes_same (x ∷ xs) [] h = absurd cc
bytes_same (x ∷ xs) (y ∷ ys) h =
    let both = both_equal (nat_cmp x y) (slice_cmp nat_cmp xs ys) h in
    rw (nat_same x y both.0, bytes_same xs ys both.1) refl

same_pair : (x e : NameEntry) → name_cmp x e ≡ Equal → x ≡ e
same_pair x e h =
    let both = both_equal (slice_cmp nat_cmp x.name e.name) (nat_cmp x.group e.group) h in
    ap (λ name. let entry : NameEntry = record { name = name; group = x.group } in entry)
    (bytes_same x.name e.name both.0)
    ∙ ap (λ group. let entry : NameEntry = record { name = e.name; group = group } in entry)
    (nat_same x.group e.group both.1)

-- the table has the same pairs and the new one
pub pairs_with : (test : NameEntry → Bool) (e : NameEntry) (xs : List NameEntry)
    → list_any test (with_name e xs) ≡ (test e || list_any test xs)
pairs_with test e [] = refl
pairs_with test e (x ∷ xs) =
    let at : (o : Ordering) → name_cmp x e ≡ o
    → list_any test (elim o [ Less ↦ x ∷ with_name e xs | Equal ↦ x ∷ xs | Greater ↦ e ∷ x ∷ xs ])
    ≡ (test e || (test x || list_any test xs)) =
    λ o. elim o as (λ p. name_cmp x e ≡ p → list_any test
    (elim p [ Less ↦ x ∷ with_name e xs | Equal ↦ x ∷ xs | Greater ↦ e ∷ x ∷ xs ])
    ≡ (test e || (test x || list_any test xs))) [
      | Less ↦ λ is. rw (pairs_with test e xs) (swapped (test x) (test e) (list_any test xs))
      | Equal ↦ λ is. rw (same_pair x e is) (twice (test e) (list_any test xs))
      | Greater ↦ λ is. refl
    ] in
    at (name_cmp x e) refl
