-- One call more inside one another than there are groups is enough for the least length: a length that needs more calls
-- than a shorter one has needs a group inside itself.
use Rattle.std.proofs.Common.{◌≡◌, ◌≤◌, ◌<◌, ◌⊎◌, inl, inr, ◌∙◌, ℕ, zero, suc, ◌+◌, ◌||◌, ◌==◌, nat_eq, Bool, true}
use Rattle.std.proofs.Common.{false, is_some, List, [], ◌∷◌, length, filter, Option, Some, None, refl, sym, ap}
use Rattle.std.proofs.Common.{subst, arith}
use Rattle.std.specs.Cmp.{IsEquivalence}
use Rattle.std.specs.List.{list_any}
use Rattle.std.proofs.lemmas.Bool.{cases_lt}
use Rattle.std.proofs.lemmas.Bool.Decides.{nat_tests}
use Rattle.std.proofs.lemmas.Map.Made.{length-le_from_is_member}
use Rattle.pat_tree.specs.Nested as tree
use Rattle.pat_tree.specs.Nested.{Nested, Row, Test, Other}
use Rattle.pat_tree.specs.Groups.{group_of, find_group}
use Rattle.pat_tree.specs.Refs.{is_in}
use Rattle.node_flow.proofs.Members.{Once, in_or_not, same_or_other, true_false}
use Rattle.node_flow.proofs.Places.{distinct, flipped}
use Rattle.pat_lengths.specs.Nodes.{captures, is_capture, is_capture_of, has_shared_number, all_nodes}
use Rattle.pat_lengths.specs.Lengths.{SomeLengths, least_lengths, by_calls}
use Rattle.pat_lengths.specs.HasLength.{Sum, Turns, AnyOr, RefHas, HasLength, InTurn, OneOf, OfOther, OfTest}
use Rattle.pat_lengths.specs.HasLength.{AreSomeLengths, OfFound, ByCalls, CanMatch, IsLeast}
use Rattle.pat_lengths.specs.Passing.{capture_number}
use Rattle.pat_lengths.proofs.GroupLemmas.{first_is, first_there}
use Rattle.pat_lengths.proofs.LengthLaw.{by_calls_law, calls_bounds}

-- a length that is not greater
abbrev Shorter : (ℕ → Type 0) → ℕ → Type 0
Shorter P k = (j : ℕ) × (j ≤ k) × P j

-- Each length of a group is no less than another of it, or bad. So is each length of a tree, or one of a group inside
-- it is bad.
module _ (Bad : ℕ → ℕ → Type 0) where
  abbrev Worse : ℕ → Type 0
  Worse k = (n : ℕ) × (i : ℕ) × (i ≤ k) × Bad n i

  abbrev Out : (ℕ → Type 0) → ℕ → Type 0
  Out P k = Shorter P k ⊎ Worse k

  same : (P : ℕ → Type 0) (k : ℕ) → P k → Out P k
  same P k p = inl (k, omega arith, p)

  mapped : (P Q : ℕ → Type 0) (k : ℕ) → ((j : ℕ) → P j → Q j) → Out P k → Out Q k
  mapped P Q k f (inl s) = inl (s.0, s.1, f s.0 s.2)
  mapped P Q k f (inr w) = inr w

  joined : (P Q : ℕ → Type 0) (i j k : ℕ) → k ≡ i + j → Out P i → Out Q j → Out (Sum P Q) k
  joined P Q i j k e (inl s) (inl t) =
      let l = s.1 in let m = t.1 in inl (s.0 + t.0, omega (arith, e, l, m), (s.0, t.0, s.2, t.2, refl))
  joined P Q i j k e (inr w) y = let l = w.2 in inr (w.0, w.1, omega (arith, e, l), w.3)
  joined P Q i j k e (inl s) (inr w) = let l = w.2 in inr (w.0, w.1, omega (arith, e, l), w.3)

  turned : (P P' : ℕ → Type 0) → ((k : ℕ) → P' k → Out P k) → (n k : ℕ) → Turns P' n k → Out (Turns P n) k
  unfolding Turns
  turned P P' f zero k h = same (λ k. k ≡ 0) k h
  turned P P' f (suc n) k h = joined P (Turns P n) h.0 h.1 k h.4 (f h.0 h.2) (turned P P' f n h.1 h.3)

  module _ (unset : Bool) (whole : Nested) (G G' : ℕ → ℕ → Type 0) (groups : (n k : ℕ) → G' n k → Out (G n) k) where
    any_out : (b : Bool) (P P' : ℕ → Type 0) (k : ℕ) → (P' k → Out P k) → AnyOr b (P' k) → Out (λ j. AnyOr b (P j)) k
    any_out true P P' k f h = same (λ j. Unit {0}) k tt
    any_out false P P' k f h = f h

    ref_out : (ns : List ℕ) (k : ℕ) → RefHas unset whole G' ns k → Out (RefHas unset whole G ns) k
    ref_out [] k h = same (λ j. Unit {0}) k tt
    ref_out (n ∷ []) k h = any_out (unset || has_shared_number whole) (G n) (G' n) k (groups n k) h
    ref_out (n ∷ m ∷ ns) k h = same (λ j. Unit {0}) k tt

    test_out : (test : Test) (P P' : ℕ → Type 0) (k : ℕ) → (P' k → Out P k) → OfTest unset whole G' test P' k
        → Out (OfTest unset whole G test P) k
    unfolding HasLength
    test_out tree.never P P' k f h = same (λ j. j ≡ 0) k h
    test_out (tree.any_set ns) P P' k f h = f h
    test_out tree.in_call P P' k f h = f h
    test_out (tree.in_call_of ns) P P' k f h = f h
    test_out (tree.assert ahead positive once ts) P P' k f h = f h
    test_out (tree.called c test) P P' k f h = f h

    mutual
      unfolding HasLength

      tree_out : (t : Nested) (k : ℕ) → HasLength unset whole G' t k → Out (HasLength unset whole G t) k
      tree_out tree.empty k h = same (λ j. j ≡ 0) k h
      tree_out (tree.one item) k h = same (λ j. j ≡ 1) k h
      tree_out tree.line_break k h = same (λ j. (j ≡ 1) ⊎ (j ≡ 2)) k h
      tree_out (tree.seq ts) k h = row_out ts k h
      tree_out (tree.group number ts) k h = one_out ts k h
      tree_out (tree.repeat t low high lazily) k h =
          mapped (Turns (HasLength unset whole G t) h.0) (HasLength unset whole G (tree.repeat t low high lazily)) k
          (λ j p. (h.0, h.1, p))
          (turned (HasLength unset whole G t) (HasLength unset whole G' t) (λ k p. tree_out t k p) h.0 k h.2)
      tree_out (tree.one_repeat item low high lazily) k h =
          same (HasLength unset whole G (tree.one_repeat item low high lazily)) k h
      tree_out (tree.atomic ts) k h = one_out ts k h
      tree_out (tree.look ahead positive once ts) k h = same (λ j. j ≡ 0) k h
      tree_out (tree.condition test first second) k h =
          test_out test (λ i. HasLength unset whole G first i ⊎ OfOther unset whole G second i)
          (λ i. HasLength unset whole G' first i ⊎ OfOther unset whole G' second i) k
          (elim [
            | inl p ↦ mapped (HasLength unset whole G first)
                (λ i. HasLength unset whole G first i ⊎ OfOther unset whole G second i) k (λ j q. inl q)
                (tree_out first k p)
            | inr p ↦ mapped (OfOther unset whole G second)
                (λ i. HasLength unset whole G first i ⊎ OfOther unset whole G second i) k (λ j q. inr q)
                (other_out second k p)
          ])
          h
      tree_out (tree.call n) k h = groups n k h
      tree_out (tree.ref ns caseless) k h = ref_out ns k h
      tree_out (tree.anchor a) k h = same (λ j. j ≡ 0) k h
      tree_out tree.keep_out k h = same (λ j. j ≡ 0) k h
      tree_out (tree.verb v) k h = same (λ j. j ≡ 0) k h
      tree_out (tree.callout c) k h = same (λ j. j ≡ 0) k h

      row_out : (ts : Row) (k : ℕ) → InTurn unset whole G' ts k → Out (InTurn unset whole G ts) k
      row_out tree.none k h = same (λ j. j ≡ 0) k h
      row_out (tree.more t ts) k h = joined (HasLength unset whole G t) (InTurn unset whole G ts) h.0 h.1 k h.4
          (tree_out t h.0 h.2) (row_out ts h.1 h.3)

      one_out : (ts : Row) (k : ℕ) → OneOf unset whole G' ts k → Out (OneOf unset whole G ts) k
      one_out tree.none k h = absurd h
      one_out (tree.more t ts) k (inl p) = mapped (HasLength unset whole G t) (OneOf unset whole G (tree.more t ts)) k
          (λ j q. inl q) (tree_out t k p)
      one_out (tree.more t ts) k (inr p) = mapped (OneOf unset whole G ts) (OneOf unset whole G (tree.more t ts)) k
          (λ j q. inr q) (one_out ts k p)

      other_out : (o : Other) (k : ℕ) → OfOther unset whole G' o k → Out (OfOther unset whole G o) k
      other_out tree.no_other k h = same (λ j. j ≡ 0) k h
      other_out (tree.other t) k h = tree_out t k h

    found_out : (o : Option Nested) (k : ℕ) → OfFound (HasLength unset whole G') o k
        → Out (OfFound (HasLength unset whole G) o) k
    found_out None k h = absurd h
    found_out (Some t) k h = tree_out t k h

-- The numbers of groups.

numbers : List Nested → List ℕ
numbers [] = []
numbers (t ∷ ts) = elim (capture_number t) [ None ↦ numbers ts | Some n ↦ n ∷ numbers ts ]

abbrev is_number : ℕ → Option ℕ → Bool
is_number n None = false
is_number n (Some m) = m == n

capture_of_is : (n : ℕ) (t : Nested) → is_capture_of n t ≡ is_number n (capture_number t)
capture_of_is n (tree.group None ts) = refl
capture_of_is n (tree.group (Some m) ts) = refl
capture_of_is n t = refl

number_count : (ts : List Nested) → length (numbers ts) ≡ length (filter is_capture ts)
unfolding numbers
number_count [] = refl
number_count (tree.group (Some n) us ∷ ts) = ap suc (number_count ts)
number_count (tree.group None us ∷ ts) = number_count ts
number_count (t ∷ ts) = number_count ts

number_in : (n : ℕ) (ts : List Nested) → is_in n (numbers ts) ≡ list_any (is_capture_of n) ts
unfolding numbers
number_in n [] = refl
number_in n (t ∷ ts) = here (capture_number t) (number_in n ts)
    ∙ ap (λ b. b || list_any (is_capture_of n) ts) (sym (capture_of_is n t))
  where
    here : (o : Option ℕ) → is_in n (numbers ts) ≡ list_any (is_capture_of n) ts →
        is_in n (elim o as (λ o. List ℕ) [ None ↦ numbers ts | Some m ↦ m ∷ numbers ts ])
        ≡ (is_number n o || list_any (is_capture_of n) ts)
    here None h = h
    here (Some m) h = ap (λ b. m == n || b) h

-- group 0 is the whole
abbrev all_numbers : Nested → List ℕ
all_numbers whole = 0 ∷ numbers (all_nodes whole)

stands : (whole : Nested) (n : ℕ) → (group_of whole n ≡ None → ⊥) → is_in n (all_numbers whole) ≡ true
stands whole n there = elim (same_or_other 0 n) [
  | inl zero_n ↦ ap (λ b. b || is_in n (numbers (all_nodes whole))) zero_n.1
  | inr other ↦
      let found : group_of whole n ≡ find_group n whole = grind (arith, nat_tests, other.0) in
      ap (λ b. b || is_in n (numbers (all_nodes whole))) other.1
      ∙ number_in n (all_nodes whole)
      ∙ sym (first_there n (all_nodes whole))
      ∙ ap is_some (first_is n whole)
      ∙ some (find_group n whole) (λ h. there (found ∙ h))
]
  where
    some : (o : Option Nested) → (o ≡ None → ⊥) → is_some o ≡ true
    some None h = absurd (h refl)
    some (Some t) h = refl

equal_laws : IsEquivalence nat_eq
equal_laws = record {
  refl = λ x. grind (arith, nat_tests);
  symm = λ x y. grind (arith, nat_tests);
  congr = λ x y z h. grind (arith, nat_tests, h);
}

-- a list without repetition of members of another is no longer
fits : (xs ys : List ℕ) → Once xs → ((n : ℕ) → is_in n xs ≡ true → is_in n ys ≡ true) → length xs ≤ length ys
fits xs ys once inside =
    length-le_from_is_member equal_laws xs ys (distinct xs once)
    (λ q h. flipped q ys ∙ inside q (sym (flipped q xs) ∙ h))

module _ (unset : Bool) (whole : Nested) where
  abbrev By : ℕ → ℕ → ℕ → Type 0
  By d n k = ByCalls unset whole d n k

  abbrev most : ℕ
  most = suc (captures whole)

  -- one call more inside one another loses no length but for a shorter one
  later : (d n k : ℕ) → By d n k → Shorter (By (suc d) n) k
  unfolding ByCalls
  later zero n k h = absurd h
  later (suc d) n k h = elim (found_out (λ m i. ⊥) unset whole (By (suc d)) (By d) (λ m i p. inl (later d m i p))
      (group_of whole n) k h) [
        | inl s ↦ s
        | inr w ↦ absurd w.3
      ]

  raised : (d e n k : ℕ) → d ≤ e → By d n k → Shorter (By e n) k
  raised d zero n k l h = let is : d ≡ zero = omega (arith, l) in (k, omega arith, subst (λ j. By j n k) is h)
  raised d (suc e) n k l h = elim (cases_lt e d) [
    | inl m ↦ let is : d ≡ suc e = omega (arith, l, m) in (k, omega arith, subst (λ j. By j n k) is h)
    | inr m ↦
        let s = raised d e n k m h in
        let t = later e n s.0 s.2 in
        let a = s.1 in let b = t.1 in
        (t.0, omega (arith, a, b), t.2)
  ]

  -- a length that takes d + 1 calls inside one another, where d give none that is as short
  record New (d n k : ℕ) : Type 0 where
    has : By (suc d) n k
    short : (j : ℕ) → By d n j → k < j

  decided : (d n k : ℕ) → By (suc d) n k → Shorter (By d n) k ⊎ New d n k
  decided d n k h = cases (by_calls unset whole d n) (by_calls_law unset whole d n)
    where
      cases : (x : SomeLengths) → AreSomeLengths (ByCalls unset whole d n) x
          → Shorter (ByCalls unset whole d n) k ⊎ New d n k
      cases None law = inr (record { has = h; short = λ j p. absurd (law j p) })
      cases (Some a) law = elim (cases_lt k a.least) [
        | inl l ↦ inr (record { has = h; short = λ j p. let m = law.low j p in omega (arith, l, m) })
        | inr l ↦ inl (a.least, l, law.least)
      ]

  or_worse : (d n k : ℕ) → Shorter (By d n) k ⊎ New d n k → Out (New d) (By d n) k
  or_worse d n k (inl s) = inl s
  or_worse d n k (inr new) = inr (n, k, omega arith, new)

  -- it is made of one like it with a call less
  stepped : (d n k : ℕ) → New (suc d) n k → (m : ℕ) × (i : ℕ) × (i ≤ k) × New d m i
  unfolding ByCalls
  stepped d n k new = elim (found_out (New d) unset whole (By d) (By (suc d))
      (λ m i p. or_worse d m i (decided d m i p)) (group_of whole n) k new.has) [
        | inl s ↦ let l = s.1 in let m = new.short s.0 s.2 in absurd (omega (arith, l, m))
        | inr w ↦ w
      ]

  -- of another group
  other_group : (d e n k i : ℕ) → New d n k → New e n i → e < d → i ≤ k → ⊥
  other_group d e n k i new old l m =
      let s = raised (suc e) d n i (omega (arith, l)) old.has in
      let a = new.short s.0 s.2 in
      let b = s.1 in
      omega (arith, a, b, m)

  there : (d n k : ℕ) → New d n k → group_of whole n ≡ None → ⊥
  unfolding ByCalls
  there d n k new e = subst (λ o. OfFound (HasLength unset whole (By d)) o k) e new.has

  -- so there are as many groups
  record Chain (d k : ℕ) : Type 0 where
    groups : List ℕ
    count : length groups ≡ suc d
    once : Once groups
    each : (n : ℕ) → is_in n groups ≡ true → (e : ℕ) × (i : ℕ) × (e ≤ d) × (i ≤ k) × New e n i

  chain : (d n k : ℕ) → New d n k → Chain d k
  unfolding Once
  chain zero n k new = record {
    groups = n ∷ [];
    count = refl;
    once = (refl, tt);
    each = λ m h. elim (same_or_other n m) [
      | inl is ↦ (zero, k, omega arith, omega arith, subst (λ j. New zero j k) is.0 new)
      | inr other ↦ absurd (true_false (n == m) (or_no (n == m) ∙ h) other.1)
    ];
  }
    where
      or_no : (b : Bool) → b ≡ (b || false)
      or_no true = refl
      or_no false = refl
  chain (suc d) n k new =
      let s = stepped d n k new in
      let rest = chain d s.0 s.1 s.3 in
      let l : s.1 ≤ k = s.2 in
      record {
        groups = n ∷ rest.groups;
        count = ap suc rest.count;
        once = (
          elim (in_or_not n rest.groups) [
            | inl inside ↦
                (let r = rest.each n inside in
                let a = r.2 in let b = r.3 in
                absurd (other_group (suc d) r.0 n k r.1 new r.4 (omega (arith, a)) (omega (arith, b, l))))
            | inr outside ↦ outside
          ],
          rest.once,
        );
        each = λ m h. elim (same_or_other n m) [
          | inl is ↦ (suc d, k, omega arith, omega arith, subst (λ j. New (suc d) j k) is.0 new)
          | inr other ↦
              (let r = rest.each m (sym (ap (λ b. b || is_in m rest.groups) other.1) ∙ h) in
              let a = r.2 in let b = r.3 in
              (r.0, r.1, omega (arith, a), omega (arith, b, l), r.4))
        ];
      }

  few : (d n k : ℕ) → New d n k → d ≤ captures whole
  few d n k new =
      let c = chain d n k new in
      let l = fits c.groups (all_numbers whole) c.once (λ m h. let r = c.each m h in
      stands whole m (there r.0 m r.1 r.4)) in
      let count = c.count in
      let all = number_count (all_nodes whole) in
      omega (arith, l, count, all)

  enough : (d n k : ℕ) → By d n k → Shorter (By most n) k
  unfolding ByCalls
  enough zero n k h = absurd h
  enough (suc d) n k h = elim (cases_lt d most) [
    | inl l ↦ raised (suc d) most n k (omega (arith, l)) h
    | inr l ↦ elim (decided d n k h) [
      | inl s ↦ (let t = enough d n s.0 s.2 in let a = s.1 in let b = t.1 in (t.0, omega (arith, a, b), t.2))
      | inr new ↦ (let m = few d n k new in absurd (omega (arith, l, m)))
    ]
  ]

  enough_for : (t : Nested) (k : ℕ) → CanMatch unset whole t k → Shorter (HasLength unset whole (By most) t) k
  enough_for t k h = elim (tree_out (λ m i. ⊥) unset whole (By most) (By h.0) (λ n i p. inl (enough h.0 n i p)) t k
      h.1) [
        | inl s ↦ s
        | inr w ↦ absurd w.3
      ]

pub least_of_all : (unset : Bool) (whole t : Nested) → IsLeast (CanMatch unset whole t) (least_lengths unset whole t)
least_of_all unset whole t = bound (least_lengths unset whole t) (calls_bounds unset whole t)
  where
    bound : (x : SomeLengths) → AreSomeLengths (HasLength unset whole (ByCalls unset whole (suc (captures whole))) t)
        x → IsLeast (CanMatch unset whole t) x
    bound None law = λ k h. let s = enough_for unset whole t k h in law s.0 s.2
    bound (Some a) law = (
      (suc (captures whole), law.least),
      λ k h. let s = enough_for unset whole t k h in let l = s.1 in let m = law.low s.0 s.2 in omega (arith, l, m),
    )
