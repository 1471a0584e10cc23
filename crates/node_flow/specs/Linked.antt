-- How the followers of a node's children hang together with its own.
use Rattle.std.specs.Prelude.{◌≡◌, ◌≤◌, ℕ, List, [], ◌∷◌, ◌++◌, All, slice_index_or, Some, None}
use Rattle.pat_tree.specs.declared.nodes.Node.{Node}
use Rattle.pat_tree.specs.declared.nodes.Node.TheVariants as node
use Rattle.pat_tree.specs.declared.nodes.Placed.{Placed}
use Rattle.pat_tree.specs.Parts.{TreeParts}
use Rattle.pat_tree.specs.Rules.{tests_of, number_in}
use Rattle.pat_tree.specs.Sound.{TreeRules}
use Rattle.node_flow.specs.Followers.{rest}

-- each of these parts is followed by the later ones, and then by others
abbrev pub AreChained : (ℕ → List ℕ) → List ℕ → List ℕ → Type 0
AreChained rest [] after = Unit {0}
AreChained rest (k ∷ ks) after = (rest k ≡ ks ++ after) × AreChained rest ks after

-- each of these parts is followed by the others
abbrev pub AllFollowed : (ℕ → List ℕ) → List ℕ → List ℕ → Type 0
AllFollowed rest after ks = All (λ k. rest k ≡ after) ks

-- What follows the children of a part, where these parts follow the part itself. A capturing group, a turn, an atomic
-- group and a lookaround are frames, at whose end none follows; so is the test of a condition.
abbrev pub IsLinked : (ℕ → List ℕ) → List ℕ → Node → Type 0
IsLinked rest after (node.Seq kids) = AreChained rest kids after
IsLinked rest after (node.Group None branches) = AllFollowed rest after branches
IsLinked rest after (node.Group (Some n) branches) = AllFollowed rest [] branches
IsLinked rest after (node.Repeat body min max lazy) = rest body ≡ []
IsLinked rest after (node.Atomic branches) = AllFollowed rest [] branches
IsLinked rest after (node.Look ahead positive once branches) = AllFollowed rest [] branches
IsLinked rest after (node.Cond test yes' no') = AllFollowed rest [] (tests_of test) × AllFollowed rest after
    (yes' ∷ number_in no')
IsLinked rest after _ = Unit {0}

-- How the followers of a tree's parts hang together.
pub record HangTogether (nodes : List Placed) (root : ℕ) : Type 0 where
  -- nothing follows the whole
  pub last : rest nodes root root ≡ []
  -- followers are parts of the tree
  pub inside : (q : ℕ) → All (λ p. p ≤ root) (rest nodes root q)
  -- the first part that follows is followed by the others
  pub chained : (q p : ℕ) (ps : List ℕ) → rest nodes root q ≡ p ∷ ps → rest nodes root p ≡ ps
  -- the children of each part are followed as its node says
  pub linked : (q : ℕ) → q ≤ root → (other : Placed) → IsLinked (rest nodes root) (rest nodes root q)
      (slice_index_or nodes q other).node

-- they do in every finished tree
abbrev pub FollowersHangTogether : Type 0
FollowersHangTogether = (t : TreeParts) → TreeRules t → HangTogether t.nodes t.root
