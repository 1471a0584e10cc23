-- The lengths of lookbehinds.
use Rattle.std.proofs.Common.{◌≡◌, ◌∙◌, ℕ, zero, suc, ◌-◌, ◌<◌, ◌≤◌, true, List, [], ◌∷◌, ◌++◌, flat_map}
use Rattle.std.proofs.Common.{drop, length, All, Some, None, refl, sym, ap, subst, arith, length-drop}
use Rattle.std.proofs.lemmas.List.Elements.{All-nil, All-cons, All-head, All-tail, All-append}
use Rattle.pat_tree.specs.declared.nodes.Node.{Node}
use Rattle.pat_tree.specs.Nested.{Nested, nest, tree_at}
use Rattle.pat_tree.specs.Rules.{kids_of, asserted_by, is_test}
use Rattle.match_items.specs.Scene.{Scene}
use Rattle.match_items.specs.Items.{places_back, previous, place_before}
use Rattle.pat_lengths.specs.Nodes.{all_nodes}
use Rattle.pat_lengths.proofs.OrderLemmas.{node_first, nodes_at}

-- no more than one place is so many characters back
pub one_place : (g : Scene) (n p : ℕ) → length (drop n (places_back g n p)) ≤ 1
unfolding places_back
one_place g zero p = omega arith
one_place g (suc n) p =
    elim (previous g p)
    as (λ o. length (drop (suc n) (let z : List ℕ = elim o [ None ↦ p ∷ [] | Some c ↦ p ∷ places_back g n c.1 ] in z))
    ≤ 1) [
      | None ↦ omega (arith, length-drop (suc n) (p ∷ []))
      | Some c ↦ one_place g n c.1
    ]

-- the place itself is one of them
pub some_back : (g : Scene) (n p : ℕ) → 0 < length (places_back g n p)
unfolding places_back
some_back g zero p = omega arith
some_back g (suc n) p =
    elim (previous g p)
    as (λ o. 0 < length (let z : List ℕ = elim o [ None ↦ p ∷ [] | Some c ↦ p ∷ places_back g n c.1 ] in z)) [
      | None ↦ omega arith
      | Some c ↦ omega arith
    ]

-- they are those from as many back as stand before
pub back_room : (g : Scene) (n p : ℕ) → places_back g n p ≡ places_back g (length (places_back g n p) - 1) p
unfolding places_back
back_room g zero p = refl
back_room g (suc n) zero = refl
back_room g (suc n) (suc p) =
    let q : ℕ = place_before g (suc p) in
    let some = some_back g n q in
    let m : ℕ = length (places_back g n q) - 1 in
    let less : suc (length (places_back g n q)) - 1 ≡ suc m = omega (arith, some) in
    ap (λ ps. suc p ∷ ps) (back_room g n q) ∙ ap (λ k. places_back g k (suc p)) (sym less)

-- What holds of all nodes of a tree, by the children.

module _ (P : Nested → Type 0) where
  front_all : (xs ys : List Nested) → All P (xs ++ ys) → All P xs
  front_all [] ys a = All-nil P
  front_all (x ∷ xs) ys a = All-cons P x xs (All-head P x (xs ++ ys) a) (front_all xs ys (All-tail P x (xs ++ ys) a))

  back_all : (xs ys : List Nested) → All P (xs ++ ys) → All P ys
  back_all [] ys a = a
  back_all (x ∷ xs) ys a = back_all xs ys (All-tail P x (xs ++ ys) a)

  flat_parts : (f : ℕ → List Nested) (ks : List ℕ) → All P (flat_map f ks) → All (λ k. All P (f k)) ks
  flat_parts f [] a = All-nil (λ k. All P (f k))
  flat_parts f (k ∷ ks) a = All-cons (λ k. All P (f k)) k ks (front_all (f k) (flat_map f ks) a)
      (flat_parts f ks (back_all (f k) (flat_map f ks) a))

  flat_join : (f : ℕ → List Nested) (ks : List ℕ) → All (λ k. All P (f k)) ks → All P (flat_map f ks)
  flat_join f [] a = All-nil P
  flat_join f (k ∷ ks) a = All-append P (f k) (flat_map f ks) (All-head (λ k. All P (f k)) k ks a)
      (flat_join f ks (All-tail (λ k. All P (f k)) k ks a))

  module _ (ts : List Nested) (n : Node) (tests : All (λ k. is_test (tree_at ts k) ≡ true) (asserted_by n)) where
    parted : All P (all_nodes (nest ts n)) → All P (nest ts n ∷ flat_map (nodes_at true ts) (kids_of n))
    parted a = subst (All P) (node_first true ts n tt tests) a

    pub all_here : All P (all_nodes (nest ts n)) → P (nest ts n)
    all_here a = All-head P (nest ts n) (flat_map (nodes_at true ts) (kids_of n)) (parted a)

    pub all_below : All P (all_nodes (nest ts n)) → All (λ k. All P (all_nodes (tree_at ts k))) (kids_of n)
    all_below a = flat_parts (nodes_at true ts) (kids_of n)
        (All-tail P (nest ts n) (flat_map (nodes_at true ts) (kids_of n)) (parted a))

    pub all_joined : P (nest ts n) → All (λ k. All P (all_nodes (tree_at ts k))) (kids_of n)
        → All P (all_nodes (nest ts n))
    all_joined p a =
        subst (All P) (sym (node_first true ts n tt tests))
        (All-cons P (nest ts n) (flat_map (nodes_at true ts) (kids_of n)) p
        (flat_join (nodes_at true ts) (kids_of n) a))
