-- What the nodes of a tree tell their children, from the root down.
use Rattle.std.specs.Prelude.{◌≡◌, ◌≤◌, ℕ, ◌+◌, if◌then◌else◌, List, [], ◌∷◌, All, take, length, slice_index_or}
use Rattle.std.specs.Prelude.{Option, None}
use Rattle.pat_tree.specs.declared.nodes.Node.{Node}
use Rattle.pat_tree.specs.declared.nodes.Placed.{Placed}
use Rattle.pat_tree.specs.Rules.{kids_of}
use Rattle.pat_tree.specs.Refs.{is_in}

-- `child n outer k` is what a node n tells its child k, where `outer` was told to the node.
module _ (child : Node → Option ℕ → ℕ → Option ℕ) where
  -- What the part k is told by its parent among these nodes, which are numbered from n on. A part without a parent is
  -- told nothing.
  unfoldable pub told_among : ℕ → List Placed → ℕ → Option ℕ
  told_among n [] k = None
  told_among n (p ∷ ps) k = if is_in k (kids_of p.node) then child p.node (told_among (n + 1) ps n) k else
      told_among (n + 1) ps k

  -- what a part of the tree of a root is told
  unfoldable pub told_of : List Placed → ℕ → ℕ → Option ℕ
  told_of nodes root = told_among 0 (take (root + 1) nodes)

  -- a list that has for each part up to the root what it is told
  pub record AreTold (nodes : List Placed) (root : ℕ) (told : List (Option ℕ)) : Type 0 where
    pub count : length told ≡ root + 1
    pub each : (part : ℕ) → part ≤ root → slice_index_or told part None ≡ told_of nodes root part

  -- What stands at k once the children of a node are told.
  abbrev pub told_by : List (Option ℕ) → Node → Option ℕ → ℕ → Option ℕ
  told_by told n outer k = if is_in k (kids_of n) then child n outer k else slice_index_or told k None

  -- How what a tree's parts are told hangs together.
  pub record HangsTogether (nodes : List Placed) (root : ℕ) : Type 0 where
    -- the whole is told nothing
    pub whole : told_of nodes root root ≡ None
    -- the children of each part are told what its node says
    pub each : (q : ℕ) → q ≤ root → (other : Placed) →
        All (λ k. told_of nodes root k ≡ child (slice_index_or nodes q other).node (told_of nodes root q) k)
        (kids_of (slice_index_or nodes q other).node)
