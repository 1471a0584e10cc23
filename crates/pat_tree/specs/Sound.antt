-- The rules that the nodes of a draft and of a tree keep.
use Rattle.std.specs.List.{IsDistinct}
use Rattle.std.specs.Prelude.{◌≡◌, ◌≤◌, ℕ, ◌<◌, true, List, [], ◌∷◌, ◌++◌, length, max, nat_eq, All, None}
use Rattle.pat_tree.specs.declared.nodes.Node.{Node}
use Rattle.pat_tree.specs.declared.nodes.Placed.{Placed}
use Rattle.pat_tree.specs.Nested.{trees, tree_at}
use Rattle.pat_tree.specs.Rules.{kids_of, asserted_by, classes_of, verb_names_of, numbers_of, IsNamed, IsOrdered}
use Rattle.pat_tree.specs.Rules.{IsDefine, is_test}
use Rattle.pat_tree.specs.Names.{AreInOrder}
use Rattle.pat_tree.specs.Parts.{DraftParts, TreeParts}
use Rattle.pat_tree.specs.Refs.{refs, has_group, bad_ref}
use Rattle.pat_tree.specs.Growing.{AreBelow}

-- one node of these, where there are so many classes and verb names
pub record NodeRules (class_count name_count : ℕ) (ps : List Placed) (node : Node) : Type 0 where
  pub kids : All (λ k. k < length ps) (kids_of node)
  pub classes : All (λ n. n < class_count) (classes_of node)
  pub verb_names : All (λ n. n < name_count) (verb_names_of node)
  pub numbered : All (λ n. 1 ≤ n) (numbers_of node)
  -- a reference names at least one group
  pub named : IsNamed node
  -- a minimum is at most its maximum
  pub ordered : IsOrdered node
  -- a condition that is never true has no second branch
  pub define : IsDefine node
  -- the node of an assertion is a lookaround, or a callout and a lookaround after it
  pub test : All (λ k. is_test (tree_at (trees ps) k) ≡ true) (asserted_by node)

-- the children of the nodes, in the order of adding
unfoldable pub children : List Placed → List ℕ
children [] = []
children (p ∷ ps) = kids_of p.node ++ children ps

-- the numbers of the capturing groups, in the order of adding
unfoldable pub group_numbers : List Placed → List ℕ
group_numbers [] = []
group_numbers (p ∷ ps) = numbers_of p.node ++ group_numbers ps

-- the greatest, 0 if there is none
abbrev pub greatest : List ℕ → ℕ
greatest [] = 0
greatest (n ∷ ns) = max n (greatest ns)

-- all nodes
pub record Sound (class_count name_count : ℕ) (ps : List Placed) : Type 0 where
  -- children have smaller numbers than their parent
  pub below : AreBelow 0 ps
  -- no node is a child at two places
  pub once : IsDistinct nat_eq (children ps)
  pub each : All (λ p. NodeRules class_count name_count ps p.node) ps

-- a draft: its nodes, classes and verb names have numbers
pub record DraftRules (d : DraftParts) : Type 0 where
  pub nodes : Sound (length d.classes) (length d.verb_names) d.nodes
  pub ordered : AreInOrder d.names
  pub node_count : length d.nodes ≤ 4294967295
  pub class_count : length d.classes ≤ 4294967295
  pub verb_name_count : length d.verb_names ≤ 4294967295

-- a finished tree
pub record TreeRules (t : TreeParts) : Type 0 where
  pub nodes : Sound (length t.classes) (length t.verb_names) t.nodes
  pub root : t.root < length t.nodes
  -- references, conditions and calls name groups that stand on a node
  pub refs : bad_ref (has_group t.nodes) (refs t.nodes) ≡ None
  -- and so do names
  pub names : All (λ entry. has_group t.nodes entry.group ≡ true) t.names
  -- by the bytes of the name, and then by the group, each pair once
  pub ordered : AreInOrder t.names
  pub node_count : length t.nodes ≤ 4294967295
  pub class_count : length t.classes ≤ 4294967295
  pub verb_name_count : length t.verb_names ≤ 4294967295
