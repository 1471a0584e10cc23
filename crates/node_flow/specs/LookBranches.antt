-- The branch of a lookbehind around a part, as far as the innermost frame around it goes: where nothing follows the
-- part in its frame, this branch has ended (pcre2pattern, "Lookbehind assertions").
use Rattle.std.specs.Prelude.{ℕ, if◌then◌else◌, List, ◌∷◌, false, Option, Some, None}
use Rattle.pat_tree.specs.declared.nodes.Node.{Node}
use Rattle.pat_tree.specs.declared.nodes.Node.TheVariants as node
use Rattle.pat_tree.specs.declared.nodes.Placed.{Placed}
use Rattle.pat_tree.specs.Parts.{TreeParts}
use Rattle.pat_tree.specs.Rules.{number_in}
use Rattle.pat_tree.specs.Refs.{is_in}
use Rattle.pat_tree.specs.Sound.{TreeRules}
use Rattle.node_flow.specs.declared.around.Around.{Around}
use Rattle.node_flow.specs.declared.around.Around.TheVariants.{Choice, Lookbehind}
use Rattle.node_flow.specs.Branches.{branch_child}
use Rattle.node_flow.specs.Around.{AreTold, HangsTogether, told_of}

-- Around the child k of a node, where `outer` is around the node. A capturing group, a turn of a repeat, an atomic
-- group, a lookahead and the test of a condition are frames.
abbrev pub look_branch_child : Node → Option ℕ → ℕ → Option ℕ
look_branch_child (node.Seq kids) outer k = outer
look_branch_child (node.Group None branches) outer k = outer
look_branch_child (node.Look false positive once branches) outer k = Some k
look_branch_child (node.Cond test yes' no') outer k = if is_in k (yes' ∷ number_in no') then outer else None
look_branch_child _ outer k = None

-- around a part of the tree of a root
abbrev pub look_branch_of : List Placed → ℕ → ℕ → Option ℕ
look_branch_of nodes root = told_of look_branch_child nodes root

-- a list that has for each part up to the root the branch around it
abbrev pub AreLookBranchesOf : List Placed → ℕ → List (Option ℕ) → Type 0
AreLookBranchesOf nodes root branches = AreTold look_branch_child nodes root branches

-- How the branches around a tree's parts hang together.
abbrev pub LookBranchesHangTogether : List Placed → ℕ → Type 0
LookBranchesHangTogether nodes root = HangsTogether look_branch_child nodes root

-- they do in every finished tree
abbrev pub LookBranchesAreAround : Type 0
LookBranchesAreAround = (t : TreeParts) → TreeRules t → LookBranchesHangTogether t.nodes t.root

-- what a node tells its children, of either branch
abbrev pub child_of : Around → Node → Option ℕ → ℕ → Option ℕ
child_of Choice = branch_child
child_of Lookbehind = look_branch_child
