-- Lists that rise, each behind those before it.
use Rattle.std.proofs.Common.{◌≡◌, ◌&&◌, ℕ, suc, ◌+◌, ◌-◌, ◌<◌, ◌≤◌, Bool, true, false, List, [], ◌∷◌, ◌++◌, length}
use Rattle.std.proofs.Common.{get_or}
use Rattle.std.proofs.Common.{refl, sym, ap, subst, ◌∙◌, append_assoc, append-nil, arith, inl, inr}
use Rattle.std.proofs.lemmas.Bool.{cases_lt}
use Rattle.std.proofs.lemmas.List.{get_or_default}
use Rattle.std.proofs.lemmas.Option.{get_or_from_slice_get, slice_get-get_or, slice_get_within}
use Rattle.std.specs.Cmp.{IsTotalOrder, both_ways}
use Rattle.std.specs.List.{list_all, AllByRecursion}
use Rattle.std.specs.List.Sorted.{IsStrictlySortedBy}
use Rattle.std.specs.Ordering.{is_lt, nat_cmp, ordering_index}
use Rattle.std.specs.Prelude.{nat_lt, slice_get, Some, None, cond, ◌==◌}
use Rattle.std.specs.declared.cmp.Ordering.{Ordering}
use Rattle.std.specs.declared.cmp.Ordering.TheVariants.{Less, Equal, Greater}
use Rattle.std.proofs.lemmas.List.Sums.{AllPass-from_list_all, list_all-from_AllPass}
use Rattle.std.proofs.lemmas.Map.Keys.{Less-from_sorted}
use Rattle.pat_save.specs.Reading.{comes_after}
use Rattle.pat_save.proofs.Forms.{Follow}

pub both_true : (a b : Bool) → (a && b) ≡ true → (a ≡ true) × (b ≡ true)
both_true true b e = (refl, e)
both_true false b e = absurd cc

pub and_both : (a b : Bool) → a ≡ true → b ≡ true → (a && b) ≡ true
and_both true b e f = f
and_both false b e f = absurd cc

pub is_less : (o : Ordering) → is_lt o ≡ true → o ≡ Less
is_less Less e = refl
is_less Equal e = absurd cc
is_less Greater e = absurd cc

some_none : {A : Type 0} {x : A} → Some x ≡ None → ⊥
some_none e = cc

pub index_lt : (o : Ordering) → (ordering_index o == 0) ≡ is_lt o
index_lt Less = refl
index_lt Equal = refl
index_lt Greater = refl

module _ {A : Type 0} (cmp : A → A → Ordering) where
  all_push : (y : A) (xs : List A) (x : A) → AllByRecursion (λ z. cmp y z ≡ Less) xs → cmp y x ≡ Less
      → AllByRecursion (λ z. cmp y z ≡ Less) (xs ++ x ∷ [])
  all_push y [] x all less = (less, tt)
  all_push y (z ∷ xs) x all less = (all.0, all_push y xs x all.1 less)

  pub sorted_push : (xs : List A) (x : A) → IsStrictlySortedBy cmp xs → comes_after cmp xs x ≡ true
      → IsStrictlySortedBy cmp (xs ++ x ∷ [])
  unfolding IsStrictlySortedBy
  sorted_push [] x sorted last = (tt, tt)
  sorted_push (y ∷ ys) x sorted last =
      let b = both_true (is_lt (cmp y x)) (comes_after cmp ys x) last in
      (all_push y ys x sorted.0 (is_less (cmp y x) b.0), sorted_push ys x sorted.1 b.1)

  -- a field that fits, behind all before it
  abbrev pub Rising : (A → Type 0) → List A → A → Type 0
  Rising f known x = f x × (comes_after cmp known x ≡ true)

  pub follow_sorted : (f : A → Type 0) (known xs : List A) → IsStrictlySortedBy cmp known → Follow (Rising f) known xs
      → IsStrictlySortedBy cmp (known ++ xs) × AllByRecursion f xs
  follow_sorted f known [] sorted fit = (subst (IsStrictlySortedBy cmp) (sym (append-nil known)) sorted, tt)
  follow_sorted f known (x ∷ xs) sorted fit =
      let more = follow_sorted f (known ++ x ∷ []) xs (sorted_push known x sorted fit.0.1) fit.1 in
      (subst (IsStrictlySortedBy cmp) (append_assoc known (x ∷ []) xs) more.0, (fit.0.0, more.1))

  in_middle : (y : A) (xs : List A) (x : A) (more : List A) → AllByRecursion (λ z. cmp y z ≡ Less) (xs ++ x ∷ more)
      → cmp y x ≡ Less
  in_middle y [] x more all = all.0
  in_middle y (z ∷ xs) x more all = in_middle y xs x more all.1

  after_all : (known : List A) (x : A) (more : List A) → IsStrictlySortedBy cmp (known ++ x ∷ more)
      → comes_after cmp known x ≡ true
  unfolding IsStrictlySortedBy
  after_all [] x more sorted = refl
  after_all (y ∷ known) x more sorted =
      and_both (is_lt (cmp y x)) (comes_after cmp known x) (ap is_lt (in_middle y known x more sorted.0))
      (after_all known x more sorted.1)

  pub sorted_follow : (f : A → Type 0) (known xs : List A) → IsStrictlySortedBy cmp (known ++ xs) → AllByRecursion f xs
      → Follow (Rising f) known xs
  sorted_follow f known [] sorted all = tt
  sorted_follow f known (x ∷ xs) sorted all = (
    (all.0, after_all known x xs sorted),
    sorted_follow f (known ++ x ∷ []) xs (subst (IsStrictlySortedBy cmp)
        (sym (append_assoc known (x ∷ []) xs)) sorted) all.1,
  )

  -- what comes behind the last comes behind all
  module _ (total : IsTotalOrder cmp) (xs : List A) (x d : A) (sorted : IsStrictlySortedBy cmp xs)
      (some : 0 < length xs) where
    below_last : cmp (get_or xs (length xs - 1) d) x ≡ Less → (i : ℕ) → i < length xs → cmp (get_or xs i d) x ≡ Less
    below_last less i lt =
        elim (cases_lt i (length xs - 1)) [
          | inl before ↦ total.trans (get_or xs i d) (get_or xs (length xs - 1) d) x
              (Less-from_sorted cmp xs i (length xs - 1) d sorted before (omega arith)) less
          | inr last ↦
              let at_end : i ≡ length xs - 1 = omega arith in
              rw at_end less
        ]

    pub after_last : comes_after cmp xs x ≡ is_lt (cmp (get_or xs (length xs - 1) d) x)
    after_last = both_ways (comes_after cmp xs x) (is_lt (cmp (get_or xs (length xs - 1) d) x))
        (λ e. AllPass-from_list_all (λ y. is_lt (cmp y x)) xs e (length xs - 1) d (omega arith))
        (λ e. list_all-from_AllPass (λ y. is_lt (cmp y x)) xs (λ i other lt.
        rw (get_or_default xs i other d lt) (ap is_lt
        (below_last (is_less (cmp (get_or xs (length xs - 1) d) x) e) i lt))))

  pub last_after : IsTotalOrder cmp → (xs : List A) (x last : A) → IsStrictlySortedBy cmp xs
      → slice_get xs (length xs - 1) ≡ Some last → comes_after cmp xs x ≡ is_lt (cmp last x)
  last_after total xs x last sorted there =
      let within : length xs - 1 < length xs = slice_get_within xs (length xs - 1) last there in
      after_last total xs x last sorted (omega arith)
      ∙ ap (λ (y : A). is_lt (cmp y x)) (get_or_from_slice_get xs (length xs - 1) last last there)

  pub none_after : (xs : List A) (x : A) → slice_get xs (length xs - 1) ≡ None → comes_after cmp xs x ≡ true
  none_after [] x e = refl
  none_after (y ∷ ys) x e =
      absurd (some_none (sym (slice_get-get_or (y ∷ ys) (suc (length ys) - 1) y (omega arith)) ∙ e))

pub lt_is : (a b : ℕ) → is_lt (nat_cmp a b) ≡ nat_lt a b
lt_is a b = elim (nat_lt a b) as (λ t. is_lt (cond t Less (cond (a == b) Equal Greater)) ≡ t) [
  | true ↦ refl
  | false ↦ elim (a == b) as (λ u. is_lt (cond u Equal Greater) ≡ false) [ true ↦ refl | false ↦ refl ]
]

pub follow_all : {A : Type 0} (f : A → Type 0) (known xs : List A) → Follow (λ _. f) known xs → AllByRecursion f xs
follow_all f known [] fit = tt
follow_all f known (x ∷ xs) fit = (fit.0, follow_all f (known ++ x ∷ []) xs fit.1)

pub all_follow : {A : Type 0} (f : A → Type 0) (known xs : List A) → AllByRecursion f xs → Follow (λ _. f) known xs
all_follow f known [] all = tt
all_follow f known (x ∷ xs) all = (all.0, all_follow f (known ++ x ∷ []) xs all.1)
