-- A pattern without lookbehinds has no fault of theirs.
use Rattle.std.proofs.Common.{◌≡◌, ◌∙◌, ℕ, ◌<◌, ◌≤◌, ◌||◌, true, false, Bool, List, [], ◌∷◌, map, Option, Some, None}
use Rattle.std.proofs.Common.{All, length, refl, ap, arith}
use Rattle.std.specs.List.{list_any}
use Rattle.std.specs.Option.{option_or}
use Rattle.std.proofs.lemmas.List.{get_or_default}
use Rattle.std.proofs.lemmas.List.Elements.{All-head, All-tail}
use Rattle.pat_tree.specs.declared.nodes.Node.{Node}
use Rattle.pat_tree.specs.declared.nodes.Node.TheVariants as node
use Rattle.pat_tree.specs.Nested.{Nested, tree_at, trees, nest}
use Rattle.pat_tree.specs.Parts.{TreeParts}
use Rattle.pat_tree.specs.Sound.{TreeRules}
use Rattle.pat_tree.proofs.Reached.{reached_node}
use Rattle.pat_lengths.specs.Nodes.{is_lookbehind}
use Rattle.pat_lengths.specs.Backs.{behind_branches, placed_at, fault_among, fault_of_node, fault_in}
use Rattle.pat_lengths.specs.declared.backs.LengthFault.{LengthFault}

no_branches : (ts : List Nested) (n : Node) → is_lookbehind (nest ts n) ≡ false → behind_branches n ≡ []
no_branches ts (node.Look true positive once branches) h = refl
no_branches ts (node.Look false positive once branches) h = absurd cc
no_branches ts _ h = refl

both_false : (a b : Bool) → (a || b) ≡ false → (a ≡ false) × (b ≡ false)
both_false false b h = (refl, h)
both_false true b h = absurd cc

no_fault_at : (t : TreeParts) → TreeRules t → (k : ℕ) → k ≤ t.root → is_lookbehind (tree_at (trees t.nodes) k) ≡ false
    → fault_of_node t (placed_at t.nodes k) ≡ None
no_fault_at t rules k l h =
    let p = placed_at t.nodes k in
    let inside : k < length t.nodes = omega (arith, l, rules.root) in
    let r = reached_node t.nodes k p rules.nodes.below inside
    (get_or_default t.nodes k (record { node = node.Empty; at = 0 }) p inside) in
    ap (fault_among t p.at) (no_branches (trees t.nodes) p.node (ap is_lookbehind r.0 ∙ h))

pub no_fault : (t : TreeParts) → TreeRules t → (ks : List ℕ) → All (λ k. k ≤ t.root) ks
    → list_any is_lookbehind (map (tree_at (trees t.nodes)) ks) ≡ false → fault_in t ks ≡ None
no_fault t rules [] below h = refl
no_fault t rules (k ∷ ks) below h =
    let each = both_false (is_lookbehind (tree_at (trees t.nodes) k))
    (list_any is_lookbehind (map (tree_at (trees t.nodes)) ks)) h in
    ap (λ o. option_or o (fault_in t ks)) (no_fault_at t rules k (All-head (λ k. k ≤ t.root) k ks below) each.0)
    ∙ no_fault t rules ks (All-tail (λ k. k ≤ t.root) k ks below) each.1

pub none_some : (o : Option LengthFault) (fault : LengthFault) → o ≡ None → o ≡ Some fault → ⊥
none_some o fault e f = cc
