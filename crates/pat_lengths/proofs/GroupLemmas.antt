-- The capturing groups of a tree.
use Rattle.std.proofs.Common.{◌≡◌, ◌∙◌, ℕ, ◌+◌, ◌<◌, ◌≤◌, ◌||◌, ◌==◌, Bool, true, false, if◌then◌else◌, is_some}
use Rattle.std.proofs.Common.{List, [], ◌∷◌, ◌++◌, Option, Some, None, length, get_or, set, refl, sym, ap, subst}
use Rattle.std.proofs.Common.{arith}
use Rattle.std.specs.List.{list_any}
use Rattle.std.specs.Option.{option_or}
use Rattle.std.proofs.lemmas.Bool.{eqb-true, eqb-false}
use Rattle.std.proofs.lemmas.List.{get_or-set_same, get_or-set_other}
use Rattle.pat_tree.specs.Nested as tree
use Rattle.pat_tree.specs.Nested.{Nested, Row, Test, Other, tree_at}
use Rattle.pat_tree.specs.Groups.{group_of, find_group, find_in, find_test, find_other}
use Rattle.pat_lengths.specs.Nodes.{nodes, nodes_in, nodes_of_test, nodes_of_other, all_nodes, is_capture_of}
use Rattle.pat_lengths.specs.Passing.{first_of, IsAt, place_of, AreGroups, capture_number}
use Rattle.pat_lengths.specs.declared.groups.Groups.{Groups}

-- A capturing group.

pub first_there : (n : ℕ) (ts : List Nested) → is_some (first_of n ts) ≡ list_any (is_capture_of n) ts
first_there n [] = refl
first_there n (t ∷ ts) = there (is_capture_of n t) (first_there n ts)
  where
    there : (b : Bool) → is_some (first_of n ts) ≡ list_any (is_capture_of n) ts
        → is_some (if b then Some t else first_of n ts) ≡ (b || list_any (is_capture_of n) ts)
    there true h = refl
    there false h = h

some_at : (trees : List Nested) (root : ℕ) (place : Option ℕ) (found : Option Nested) → IsAt trees root place found
    → is_some place ≡ is_some found
some_at trees root None found h = ap is_some (sym h)
some_at trees root (Some k) found h = ap is_some (sym h.1)

put_at : (trees : List Nested) (root : ℕ) (old new : Groups) (nodes : List Nested) (m : ℕ) (ts : Row) (id : ℕ) →
    tree_at trees id ≡ tree.group (Some m) ts → id ≤ root → m < length old.places.items →
    new.places.items ≡ set old.places.items m (Some id) → new.count ≡ old.count + 1
    → new.shared ≡ (is_some (place_of old.places.items m) || old.shared) →
    AreGroups trees root old nodes → AreGroups trees root new (tree_at trees id ∷ nodes)
put_at trees root old new nodes m ts id e below room places count shared are =
    subst (λ t. AreGroups trees root new (t ∷ nodes)) (sym e) (record {
      places = λ n. at n (m == n) refl;
      count = count ∙ omega (arith, are.count);
      shared = shared ∙ rw (
        some_at trees root (place_of old.places.items m) (first_of m nodes) (are.places m)
            ∙ first_there m nodes,
        are.shared,
      ) refl;
    })
  where
    at : (n : ℕ) (b : Bool) → b ≡ (m == n) → IsAt trees root (place_of new.places.items n)
        (if b then Some (tree.group (Some m) ts) else first_of n nodes)
    at n true h =
        let same : m ≡ n = eqb-true m n (sym h) in
        let read : place_of new.places.items n ≡ Some id = ap (λ xs. place_of xs n) places
        ∙ ap (λ k. get_or (set old.places.items m (Some id)) k None) (sym same)
        ∙ get_or-set_same old.places.items m (Some id) None room in
        subst (λ p. IsAt trees root p (Some (tree.group (Some m) ts))) (sym read) (below, sym (ap Some e))
    at n false h =
        let other : n ≡ m → ⊥ = λ same. eqb-false m n (sym h) (sym same) in
        let read : place_of new.places.items n ≡ place_of old.places.items n = ap (λ xs. place_of xs n) places
        ∙ get_or-set_other old.places.items m n (Some id) None other in
        subst (λ p. IsAt trees root p (first_of n nodes)) (sym read) (are.places n)

pub group_of_number : (t : Nested) (m : ℕ) → Some m ≡ capture_number t → (ts : Row) × (t ≡ tree.group (Some m) ts)
group_of_number (tree.group number ts) m h = (ts, ap (λ n. tree.group n ts) (sym h))
group_of_number tree.empty m h = absurd cc
group_of_number (tree.one item) m h = absurd cc
group_of_number tree.line_break m h = absurd cc
group_of_number (tree.seq ts) m h = absurd cc
group_of_number (tree.repeat t low high lazily) m h = absurd cc
group_of_number (tree.one_repeat item low high lazily) m h = absurd cc
group_of_number (tree.atomic ts) m h = absurd cc
group_of_number (tree.look ahead positive once ts) m h = absurd cc
group_of_number (tree.condition test first second) m h = absurd cc
group_of_number (tree.call n) m h = absurd cc
group_of_number (tree.ref ns caseless) m h = absurd cc
group_of_number (tree.anchor a) m h = absurd cc
group_of_number tree.keep_out m h = absurd cc
group_of_number (tree.verb v) m h = absurd cc
group_of_number (tree.callout c) m h = absurd cc

pub put_group : (trees : List Nested) (root : ℕ) (old new : Groups) (nodes : List Nested) (m id : ℕ)
    → Some m ≡ capture_number (tree_at trees id) →
    id ≤ root → m < length old.places.items →
    new.places.items ≡ set old.places.items m (Some id) → new.count ≡ old.count + 1
    → new.shared ≡ (is_some (place_of old.places.items m) || old.shared) →
    AreGroups trees root old nodes → AreGroups trees root new (tree_at trees id ∷ nodes)
put_group trees root old new nodes m id h below room places count shared are =
    let g = group_of_number (tree_at trees id) m h in
    put_at trees root old new nodes m g.0 id g.1 below room places count shared are

-- The first group of a number is the leftmost.

first_append : (n : ℕ) (xs ys : List Nested) → first_of n (xs ++ ys) ≡ option_or (first_of n xs) (first_of n ys)
first_append n [] ys = refl
first_append n (x ∷ xs) ys = here (is_capture_of n x) (first_append n xs ys)
  where
    here : (b : Bool) → first_of n (xs ++ ys) ≡ option_or (first_of n xs) (first_of n ys) →
        (if b then Some x else first_of n (xs ++ ys)) ≡ option_or (if b then Some x else first_of n xs) (first_of n ys)
    here true h = refl
    here false h = h

or_none : {A : Type 0} → (x y z : Option A) → option_or (option_or x y) z ≡ option_or x (option_or y z)
or_none None y z = refl
or_none (Some a) y z = refl

mutual
  unfolding nodes

  pub first_is : (n : ℕ) (t : Nested) → first_of n (nodes true t) ≡ find_group n t
  first_is n tree.empty = refl
  first_is n (tree.one item) = refl
  first_is n tree.line_break = refl
  first_is n (tree.seq ts) = firsts_are n ts
  first_is n (tree.group None ts) = firsts_are n ts
  first_is n (tree.group (Some m) ts) = ap (λ o. if m == n then Some (tree.group (Some m) ts) else o) (firsts_are n ts)
  first_is n (tree.repeat t low high lazily) = first_is n t
  first_is n (tree.one_repeat item low high lazily) = refl
  first_is n (tree.atomic ts) = firsts_are n ts
  first_is n (tree.look ahead positive once ts) = firsts_are n ts
  first_is n (tree.condition test first second) =
      first_append n (nodes_of_test true test ++ nodes true first) (nodes_of_other true second)
      ∙ ap (λ o. option_or o (first_of n (nodes_of_other true second)))
      (first_append n (nodes_of_test true test) (nodes true first))
      ∙ rw (first_of_test n test, first_is n first, first_of_other n second)
      (or_none (find_test n test) (find_group n first) (find_other n second))
  first_is n (tree.call m) = refl
  first_is n (tree.ref ns caseless) = refl
  first_is n (tree.anchor a) = refl
  first_is n tree.keep_out = refl
  first_is n (tree.verb v) = refl
  first_is n (tree.callout c) = refl

  firsts_are : (n : ℕ) (ts : Row) → first_of n (nodes_in true ts) ≡ find_in n ts
  firsts_are n tree.none = refl
  firsts_are n (tree.more t ts) = first_append n (nodes true t) (nodes_in true ts)
      ∙ rw (first_is n t, firsts_are n ts) refl

  first_of_test : (n : ℕ) (test : Test) → first_of n (nodes_of_test true test) ≡ find_test n test
  first_of_test n (tree.any_set ns) = refl
  first_of_test n tree.in_call = refl
  first_of_test n (tree.in_call_of ns) = refl
  first_of_test n tree.never = refl
  first_of_test n (tree.assert ahead positive once ts) = firsts_are n ts
  first_of_test n (tree.called c test) = first_of_test n test

  first_of_other : (n : ℕ) (o : Other) → first_of n (nodes_of_other true o) ≡ find_other n o
  first_of_other n tree.no_other = refl
  first_of_other n (tree.other t) = first_is n t

-- The groups with the whole pattern as group 0.

pub with_whole_is : (trees : List Nested) (root : ℕ) (whole : Nested) (places : List (Option ℕ)) → 0 < length places
    → whole ≡ tree_at trees root →
    ((n : ℕ) → IsAt trees root (place_of places n) (first_of n (all_nodes whole))) → (n : ℕ)
    → IsAt trees root (place_of (set places 0 (Some root)) n) (group_of whole n)
with_whole_is trees root whole places room is at n = here (n == 0) refl
  where
    here : (b : Bool) → b ≡ (n == 0) → IsAt trees root (place_of (set places 0 (Some root)) n)
        (if b then Some whole else find_group n whole)
    here true h =
        let zero_n : n ≡ 0 = eqb-true n 0 (sym h) in
        let read : place_of (set places 0 (Some root)) n ≡ Some root =
        ap (λ k. get_or (set places 0 (Some root)) k None) zero_n
        ∙ get_or-set_same places 0 (Some root) None room in
        let low : root ≤ root = omega arith in
        subst (λ p. IsAt trees root p (Some whole)) (sym read) (low, ap Some is)
    here false h =
        let other : n ≡ 0 → ⊥ = λ same. eqb-false n 0 (sym h) same in
        let read : place_of (set places 0 (Some root)) n ≡ place_of places n =
        get_or-set_other places 0 n (Some root) None other in
        subst (λ p. IsAt trees root p (find_group n whole)) (sym read)
        (subst (IsAt trees root (place_of places n)) (first_is n whole) (at n))
