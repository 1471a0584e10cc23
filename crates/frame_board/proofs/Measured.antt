-- No lookbehind of a checked tree has a fault.
use Rattle.std.proofs.Common.{◌≡◌, ◌∙◌, ℕ, zero, suc, ◌<◌, ◌≤◌, true, false, List, [], ◌∷◌, ◌++◌, map, flat_map}
use Rattle.std.proofs.Common.{length, All, Option, Some, None, get_or, refl, ap, subst, arith}
use Rattle.std.specs.Option.{option_or}
use Rattle.std.proofs.lemmas.List.{get_or_default}
use Rattle.std.proofs.lemmas.List.Elements.{All-nil, All-cons}
use Rattle.pat_tree.specs.declared.nodes.Node.{Node}
use Rattle.pat_tree.specs.declared.nodes.Node.TheVariants as node
use Rattle.pat_tree.specs.declared.nodes.Placed.{Placed}
use Rattle.pat_tree.specs.Nested.{Nested, nest, row, tree_at, trees}
use Rattle.pat_tree.specs.Parts.{TreeParts, tree_of}
use Rattle.pat_tree.specs.Rules.{kids_of}
use Rattle.pat_tree.specs.Sound.{TreeRules}
use Rattle.pat_tree.proofs.Reached.{reached_node}
use Rattle.node_flow.specs.Order.{order}
use Rattle.node_flow.proofs.TreeLaws.{parts_come_first}
use Rattle.pat_lengths.specs.declared.backs.LengthFault.{LengthFault}
use Rattle.pat_lengths.specs.Lengths.{branch_fault}
use Rattle.pat_lengths.specs.Backs.{behind_branches, fault_from, lengths_at, fault_among, fault_of_node, fault_in}
use Rattle.pat_lengths.specs.Backs.{first_fault}
use Rattle.frame_state.specs.Behind.{AreFixed, HasFixed, IsMeasured}
use Rattle.frame_board.specs.Ready.{lengths_in}
use Rattle.frame_state.proofs.BehindLemmas.{all_joined}

some_none : {A : Type 0} (a : A) → Some a ≡ None → ⊥
some_none a e = cc

both_none : (a b : Option LengthFault) → option_or a b ≡ None → (a ≡ None) × (b ≡ None)
both_none None b e = (refl, e)
both_none (Some x) b e = absurd (some_none x e)

fault_none : (at : ℕ) (o : Option ℕ) → fault_from at o ≡ None → o ≡ None
fault_none at None e = refl
fault_none at (Some n) e = absurd (some_none _ e)

module _ (t : TreeParts) (rules : TreeRules t) where
  abbrev ts : List Nested
  ts = trees t.nodes

  fixed_among : (at : ℕ) (ks : List ℕ) → fault_among t at ks ≡ None
      → AreFixed (lengths_in t) (row (map (tree_at ts) ks))
  fixed_among at [] e = tt
  fixed_among at (k ∷ ks) e =
      let h = both_none (fault_from at (branch_fault (lengths_at t k))) (fault_among t at ks) e in
      (fault_none at (branch_fault (lengths_at t k)) h.0, fixed_among at ks h.1)

  fixed_node : (n : Node) (at : ℕ) → fault_among t at (behind_branches n) ≡ None → HasFixed (lengths_in t) (nest ts n)
  fixed_node (node.Look false positive once ks) at e = fixed_among at ks e
  fixed_node (node.Look true positive once ks) at e = tt
  fixed_node _ at e = tt

  fault_append : (xs ys : List ℕ) → fault_in t (xs ++ ys) ≡ None → (fault_in t xs ≡ None) × (fault_in t ys ≡ None)
  fault_append [] ys e = (refl, e)
  fault_append (x ∷ xs) ys e =
      let p : Placed = get_or t.nodes x (record { node = node.Empty; at = 0 }) in
      let h = both_none (fault_of_node t p) (fault_in t (xs ++ ys)) e in
      let r = fault_append xs ys h.1 in
      (ap (λ a. option_or a (fault_in t xs)) h.0 ∙ r.0, r.1)

  fault_flat : (f : ℕ → List ℕ) (ks : List ℕ) → fault_in t (flat_map f ks) ≡ None
      → All (λ k. fault_in t (f k) ≡ None) ks
  fault_flat f [] e = All-nil (λ k. fault_in t (f k) ≡ None)
  fault_flat f (k ∷ ks) e = let h = fault_append (f k) (flat_map f ks) e in
      All-cons (λ k. fault_in t (f k) ≡ None) k ks h.0 (fault_flat f ks h.1)

  measured_under : (fuel q : ℕ) → q < fuel → q ≤ t.root → fault_in t (order t.nodes q) ≡ None
      → IsMeasured (lengths_in t) (tree_at ts q)
  measured_under zero q l m e = absurd (omega (arith, l))
  measured_under (suc fuel) q l m e =
      let d : Placed = record { node = node.Empty; at = 0 } in
      let p = get_or t.nodes q d in
      let inside : q < length t.nodes = omega (arith, m, rules.root) in
      let r = reached_node t.nodes q p rules.nodes.below inside (get_or_default t.nodes q d p inside) in
      let parts : fault_in t (q ∷ flat_map (order t.nodes) (kids_of p.node)) ≡ None =
      subst (λ xs. fault_in t xs ≡ None) (parts_come_first t rules q m d) e in
      let h = both_none (fault_of_node t p) (fault_in t (flat_map (order t.nodes) (kids_of p.node))) parts in
      let later : All (λ k. fault_in t (order t.nodes k) ≡ None) (kids_of p.node) =
      fault_flat (order t.nodes) (kids_of p.node) h.1 in
      let kids : All (λ k. IsMeasured (lengths_in t) (tree_at ts k)) (kids_of p.node) = λ i o j.
      let k = get_or (kids_of p.node) i o in
      let below : k < q = r.1 i o j in
      measured_under fuel k (omega (arith, below, l)) (omega (arith, below, m)) (later i o j) in
      subst (IsMeasured (lengths_in t)) r.0
      (all_joined (HasFixed (lengths_in t)) ts p.node (rules.nodes.each q d inside).test (fixed_node p.node p.at h.0)
      kids)

  pub measured_whole : first_fault t ≡ None → IsMeasured (lengths_in t) (tree_of t)
  measured_whole e = measured_under (suc t.root) t.root (omega arith) (omega arith) e
