-- The children of a part stand in turn behind it.
use Rattle.std.proofs.Common.{◌≡◌, ℕ, suc, ◌+◌, ◌<◌, ◌≤◌, true, false, ◌==◌, List, [], ◌∷◌, ◌++◌, flat_map, length}
use Rattle.std.proofs.Common.{get_or, All, inl, inr, refl, sym, ap, ◌∙◌, subst, arith, append_assoc, length-append}
use Rattle.std.proofs.Math.Bool.{or-true}
use Rattle.std.proofs.lemmas.Bool.Decides.{nat_tests}
use Rattle.std.proofs.lemmas.List.{get_or_default}
use Rattle.std.proofs.lemmas.List.Elements.{All-head, All-tail}
use Rattle.pat_tree.specs.declared.nodes.Node.TheVariants.{Empty}
use Rattle.pat_tree.specs.declared.nodes.Placed.{Placed}
use Rattle.pat_tree.specs.Parts.{TreeParts}
use Rattle.pat_tree.specs.Rules.{kids_of}
use Rattle.pat_tree.specs.Refs.{is_in}
use Rattle.pat_tree.specs.Sound.{children, TreeRules}
use Rattle.pat_tree.proofs.Reached.{reached_node}
use Rattle.node_flow.specs.Order.{order, place_in, rank, past, StandInTurn, StandTogether, ChildrenStandInTurn}
use Rattle.node_flow.proofs.Members.{Once, once, same_or_other, in_or_not, true_false, in_append, in_at, apart}
use Rattle.node_flow.proofs.Apart.{in_all, small}
use Rattle.node_flow.proofs.TreeLaws.{parts_come_first, parts_stand_once, parts_stand_together}

-- the place of what stands behind others that are different
place_seam : (front : List ℕ) (k : ℕ) (back : List ℕ) → is_in k front ≡ false
    → place_in (front ++ k ∷ back) k ≡ length front
unfolding place_in
place_seam [] k back out =
    let same : (k == k) ≡ true = grind (arith, nat_tests) in
    rw same refl
place_seam (x ∷ front) k back out =
    elim (same_or_other x k) [
      | inl same ↦ absurd (true_false (is_in k (x ∷ front)) (rw same.1 refl) out)
      | inr other ↦ rw other.1 (ap suc (place_seam front k back (rw other.1 at out)))
    ]

-- what is in a list has its place there
pub place_within : (xs : List ℕ) (k : ℕ) → is_in k xs ≡ true → place_in xs k < length xs
unfolding place_in
place_within [] k m = absurd (true_false false m refl)
place_within (x ∷ xs) k m =
    elim (same_or_other x k) [
      | inl same ↦ rw same.1 (omega arith)
      | inr other ↦ rw other.1 (let later = place_within xs k (rw other.1 at m) in omega (arith, later))
    ]

pub place_at : (xs : List ℕ) (k : ℕ) → is_in k xs ≡ true → get_or xs (place_in xs k) 0 ≡ k
unfolding place_in
place_at [] k m = absurd (true_false false m refl)
place_at (x ∷ xs) k m =
    elim (same_or_other x k) [
      | inl same ↦ rw same.1 same.0
      | inr other ↦ rw other.1 (place_at xs k (rw other.1 at m))
    ]

-- in a list in which none stands twice
place_once : (front : List ℕ) (k : ℕ) (back : List ℕ) → Once (front ++ k ∷ back)
    → place_in (front ++ k ∷ back) k ≡ length front
place_once front k back h =
    let same : (k == k) ≡ true = grind (arith, nat_tests) in
    let member : is_in k (k ∷ back) ≡ true = rw same refl in
    let out : is_in k front ≡ false =
    elim (in_or_not k front) [
      | inl inside ↦ absurd (true_false (is_in k (k ∷ back)) member (apart front (k ∷ back) k h inside))
      | inr other ↦ other
    ] in
    place_seam front k back out

module _ (t : TreeParts) (h : TreeRules t) where
  abbrev whole : List ℕ
  whole = order t.nodes t.root

  distinct : Once whole
  distinct = once whole (parts_stand_once t h)

  abbrev kids_at : ℕ → Placed → List ℕ
  kids_at q other = kids_of (get_or t.nodes q other).node

  -- a part that stands behind others
  rank_is : (q : ℕ) → q ≤ t.root → (other : Placed) (front back : List ℕ) → whole ≡ front ++ (order t.nodes q ++ back)
      → rank t.nodes t.root q ≡ length front
  rank_is q l other front back e =
      let own : order t.nodes q ≡ q ∷ flat_map (order t.nodes) (kids_at q other) = parts_come_first t h q l other in
      let here : whole ≡ front ++ (q ∷ (flat_map (order t.nodes) (kids_at q other) ++ back)) = e
      ∙ ap (λ xs. front ++ (xs ++ back)) own in
      ap (λ xs. place_in xs q) here ∙ place_once front q (flat_map (order t.nodes) (kids_at q other) ++ back)
      (subst Once here distinct)

  in_turn : (ks front back : List ℕ) (to : ℕ) → All (λ k. k ≤ t.root) ks → (other : Placed)
      → whole ≡ front ++ (flat_map (order t.nodes) ks ++ back) →
      to ≡ length front + length (flat_map (order t.nodes) ks)
      → StandInTurn (rank t.nodes t.root) (past t.nodes t.root) (length front) ks to
  in_turn [] front back to below other e is = omega (arith, is)
  in_turn (k ∷ ks) front back to below other e is =
      let f : ℕ → List ℕ = order t.nodes in
      let first : whole ≡ front ++ (f k ++ (flat_map f ks ++ back)) = e
      ∙ ap (λ xs. front ++ xs) (append_assoc (f k) (flat_map f ks) back) in
      let here : rank t.nodes t.root k ≡ length front =
      rank_is k (All-head (λ x. x ≤ t.root) k ks below) other front (flat_map f ks ++ back) first in
      let later : whole ≡ (front ++ f k) ++ (flat_map f ks ++ back) = first
      ∙ sym (append_assoc front (f k) (flat_map f ks ++ back)) in
      let place : length (front ++ f k) ≡ past t.nodes t.root k = length-append front (f k)
      ∙ ap (λ n. n + length (f k)) (sym here) in
      let end : to ≡ length (front ++ f k) + length (flat_map f ks) =
      omega (arith, is, length-append front (f k), length-append (f k) (flat_map f ks)) in (
        here,
        subst (λ n. StandInTurn (rank t.nodes t.root) (past t.nodes t.root) n ks to) place
            (in_turn ks (front ++ f k) back to (All-tail (λ x. x ≤ t.root) k ks below) other later end),
      )

  -- a part is in its own list
  itself : (k : ℕ) → k ≤ t.root → (other : Placed) → is_in k (order t.nodes k) ≡ true
  itself k l other =
      let same : (k == k) ≡ true = grind (arith, nat_tests) in
      ap (is_in k) (parts_come_first t h k l other) ∙ rw same refl

  -- what is in the list of a part of the whole is in the whole
  in_whole : (q x : ℕ) → is_in q whole ≡ true → is_in x (order t.nodes q) ≡ true → is_in x whole ≡ true
  in_whole q x inside m =
      let s : StandTogether whole (order t.nodes q) = parts_stand_together t h q inside in
      ap (is_in x) (s.is ∙ append_assoc s.front (order t.nodes q) s.back)
      ∙ in_append x s.front (order t.nodes q ++ s.back)
      ∙ (let there : is_in x (order t.nodes q ++ s.back) ≡ true = in_append x (order t.nodes q) s.back ∙ rw m refl in
      rw (there, or-true) refl)

  -- and is at most the root
  in_root : (q : ℕ) → is_in q whole ≡ true → q ≤ t.root
  in_root q inside = small t.nodes (once (children t.nodes) h.nodes.once) (t.root + 1) t.root q (omega arith) h.root
      inside

  stand_in_turn : (q : ℕ) → is_in q whole ≡ true → (other : Placed) →
      All (λ k. is_in k whole ≡ true) (kids_at q other)
      × StandInTurn (rank t.nodes t.root) (past t.nodes t.root) (suc (rank t.nodes t.root q)) (kids_at q other)
      (past t.nodes t.root q)
  stand_in_turn q inside other =
      let l : q ≤ t.root = in_root q inside in
      let p : Placed = get_or t.nodes q other in
      let near : q < length t.nodes = omega (arith, l, h.root) in
      let below : All (λ x. x < q) (kids_of p.node) =
      (reached_node t.nodes q p h.nodes.below near (get_or_default t.nodes q other p near)).1 in
      let ks : List ℕ = kids_at q other in
      let f : ℕ → List ℕ = order t.nodes in
      let own : f q ≡ q ∷ flat_map f ks = parts_come_first t h q l other in
      let s : StandTogether whole (f q) = parts_stand_together t h q inside in
      let parted : whole ≡ s.front ++ (f q ++ s.back) = s.is ∙ append_assoc s.front (f q) s.back in
      let here : rank t.nodes t.root q ≡ length s.front = rank_is q l other s.front s.back parted in
      let behind : whole ≡ (s.front ++ q ∷ []) ++ (flat_map f ks ++ s.back) =
      parted ∙ ap (λ xs. s.front ++ (xs ++ s.back)) own
      ∙ sym (append_assoc s.front (q ∷ []) (flat_map f ks ++ s.back)) in
      let start : length (s.front ++ q ∷ []) ≡ suc (rank t.nodes t.root q) =
      omega (arith, here, length-append s.front (q ∷ [])) in
      let end : past t.nodes t.root q ≡ length (s.front ++ q ∷ []) + length (flat_map f ks) =
      omega (arith, start, ap length own) in
      let low : All (λ k. k ≤ t.root) ks = λ i d m. let less : get_or ks i d < q = below i d m in
      omega (arith, less, l) in (
        λ i d m.
            let k : ℕ = get_or ks i d in
            let child : is_in k (flat_map f ks) ≡ true = in_all f ks k k (in_at ks i d m) (itself k (low i d m) other)
            in
            in_whole q k inside (ap (is_in k) own ∙ rw (child, or-true) refl),
        subst (λ n. StandInTurn (rank t.nodes t.root) (past t.nodes t.root) n ks (past t.nodes t.root q)) start
            (in_turn ks (s.front ++ q ∷ []) s.back (past t.nodes t.root q) low other behind end),
      )

pub root_in_order : (t : TreeParts) → TreeRules t → is_in t.root (order t.nodes t.root) ≡ true
root_in_order t h = itself t h t.root (omega arith) (record { node = Empty; at = 0 })

pub children_stand_in_turn : ChildrenStandInTurn
children_stand_in_turn t h q inside other = stand_in_turn t h q inside other
