-- The innermost branch around a part, as far as the innermost frame around it goes. Two branches or more make it one; a
-- branch that is alone, and those of a condition, are none (pcre2pattern, "Verbs that act after backtracking").
use Rattle.std.specs.Prelude.{ℕ, if◌then◌else◌, List, ◌∷◌, Option, Some, None}
use Rattle.pat_tree.specs.declared.nodes.Node.{Node}
use Rattle.pat_tree.specs.declared.nodes.Node.TheVariants as node
use Rattle.pat_tree.specs.declared.nodes.Placed.{Placed}
use Rattle.pat_tree.specs.Parts.{TreeParts}
use Rattle.pat_tree.specs.Rules.{number_in}
use Rattle.pat_tree.specs.Refs.{is_in}
use Rattle.pat_tree.specs.Sound.{TreeRules}
use Rattle.node_flow.specs.Around.{AreTold, HangsTogether, told_of}

-- around one of these branches, where another is around them all
abbrev pub branch_if : List ℕ → Option ℕ → ℕ → Option ℕ
branch_if (b ∷ b' ∷ bs) outer k = Some k
branch_if _ outer k = outer

-- Around the child k of a node, where `outer` is around the node. A capturing group, a turn of a repeat, an atomic
-- group, a lookaround and the test of a condition are frames.
abbrev pub branch_child : Node → Option ℕ → ℕ → Option ℕ
branch_child (node.Seq kids) outer k = outer
branch_child (node.Group None branches) outer k = branch_if branches outer k
branch_child (node.Group (Some n) branches) outer k = branch_if branches None k
branch_child (node.Atomic branches) outer k = branch_if branches None k
branch_child (node.Look ahead positive once branches) outer k = branch_if branches None k
branch_child (node.Cond test yes' no') outer k = if is_in k (yes' ∷ number_in no') then outer else None
branch_child _ outer k = None

-- around a part of the tree of a root
abbrev pub branch_of : List Placed → ℕ → ℕ → Option ℕ
branch_of nodes root = told_of branch_child nodes root

-- a list that has for each part up to the root the branch around it
abbrev pub AreBranchesOf : List Placed → ℕ → List (Option ℕ) → Type 0
AreBranchesOf nodes root branches = AreTold branch_child nodes root branches

-- How the branches around a tree's parts hang together.
abbrev pub BranchesHangTogether : List Placed → ℕ → Type 0
BranchesHangTogether nodes root = HangsTogether branch_child nodes root

-- they do in every finished tree
abbrev pub BranchesAreAround : Type 0
BranchesAreAround = (t : TreeParts) → TreeRules t → BranchesHangTogether t.nodes t.root
