-- What is told of a code is told of its pattern.
use Rattle.std.proofs.Common.{◌≡◌, ◌∙◌, ℕ, ◌<◌, ◌≤◌, max, true, false, List, [], ◌∷◌, map, length, refl, sym, ap}
use Rattle.std.proofs.Common.{arith, inl, inr, if◌then◌else◌}
use Rattle.std.proofs.lemmas.Bool.Decides.{leb_tells}
use Rattle.std.proofs.lemmas.List.{get_or_default, get_or_past}
use Rattle.pat_tree.specs.declared.nodes.Node.{Node}
use Rattle.pat_tree.specs.declared.nodes.Node.TheVariants as node
use Rattle.pat_tree.specs.declared.nodes.Placed.{Placed}
use Rattle.pat_tree.specs.Nested as tree
use Rattle.pat_tree.specs.Nested.{Nested, tree_at, trees, row, nest}
use Rattle.pat_tree.specs.Parts.{TreeParts, tree_of}
use Rattle.pat_tree.specs.Pattern.{pattern_of}
use Rattle.pat_tree.specs.Sound.{TreeRules, greatest, group_numbers}
use Rattle.pat_tree.proofs.Growing.{length_trees}
use Rattle.pat_tree.proofs.Reached.{reached_node}
use Rattle.node_flow.specs.Order.{order}
use Rattle.pat_lengths.specs.Backs as backs
use Rattle.pat_lengths.specs.Backs.{behind_branches, placed_at, greatest_back}
use Rattle.pat_lengths.specs.Lengths.{can_be_empty}
use Rattle.pat_lengths.specs.Nodes.{tests_before}
use Rattle.pat_lengths.proofs.OrderLemmas.{whole_in_order}
use Rattle.pcre2_api.specs.declared.code.Info.{Info}
use Rattle.pcre2_api.specs.Compiled.{CodeParts, info_of}
use Rattle.pcre2_api.specs.Informs.{greatest_of, longest_branch, length_behind, greatest_behind, info_in}

module _ (t : TreeParts) where
  abbrev ts : List Nested
  ts = trees t.nodes

  branches_are : (ks : List ℕ) → backs.greatest_of t ks ≡ longest_branch (pattern_of t) (row (map (tree_at ts) ks))
  branches_are [] = refl
  branches_are (k ∷ ks) = ap (max (backs.length_of (backs.lengths_at t k))) (branches_are ks)

  node_is : (n : Node) → backs.greatest_of t (behind_branches n) ≡ length_behind (pattern_of t) (nest ts n)
  node_is (node.Look true positive once branches) = refl
  node_is (node.Look false positive once branches) = branches_are branches
  node_is _ = refl

  -- a number of no node stands for the empty node
  past_is : (k : ℕ) → length t.nodes ≤ k → backs.greatest_of t
      (behind_branches (placed_at t.nodes k).node) ≡ length_behind (pattern_of t) (tree_at ts k)
  past_is k past =
      let beyond : length ts ≤ k = omega (arith, past, length_trees t.nodes) in
      ap (λ (p : Placed). backs.greatest_of t (behind_branches p.node))
      (get_or_past t.nodes k (record { node = node.Empty; at = 0 }) past)
      ∙ sym (ap (length_behind (pattern_of t)) (get_or_past ts k tree.empty beyond))

  inside_is : TreeRules t → (k : ℕ) → k < length t.nodes
      → backs.greatest_of t (behind_branches (placed_at t.nodes k).node) ≡ length_behind (pattern_of t) (tree_at ts k)
  inside_is rules k inside =
      let p = placed_at t.nodes k in
      let r = reached_node t.nodes k p rules.nodes.below inside
      (get_or_default t.nodes k (record { node = node.Empty; at = 0 }) p inside) in
      node_is p.node ∙ ap (length_behind (pattern_of t)) r.0

  part_is : TreeRules t → (k : ℕ) → backs.greatest_of t (behind_branches (placed_at t.nodes k).node) ≡ length_behind
      (pattern_of t) (tree_at ts k)
  part_is rules k = elim (leb_tells (length t.nodes) k) [ inl w ↦ past_is k w.1 | inr w ↦ inside_is rules k w.1 ]

  parts_are : TreeRules t → (ks : List ℕ) → backs.greatest_in t ks ≡ greatest_of
      (map (length_behind (pattern_of t)) (map (tree_at ts) ks))
  parts_are rules [] = refl
  parts_are rules (k ∷ ks) = λ i. max (part_is rules k i) (parts_are rules ks i)

  back_is : TreeRules t → greatest_back t ≡ greatest_behind (pattern_of t)
  back_is rules = parts_are rules (order t.nodes t.root)
      ∙ ap (λ l. greatest_of (map (length_behind (pattern_of t)) l)) (whole_in_order t rules)

pub info_is : (code : CodeParts) → TreeRules code.tree → info_of code ≡ info_in (pattern_of code.tree)
info_is code rules =
    let t = code.tree in
    ap (λ n. let told : Info = record {
      groups = greatest (group_numbers t.nodes);
      max_lookbehind = max n (if tests_before (tree_of t) then 1 else 0);
      can_be_empty = can_be_empty t.options.match_unset_backref (tree_of t);
    } in told) (back_is t rules)
