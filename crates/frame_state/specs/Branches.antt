-- The branches of a part.
use Rattle.std.specs.Prelude.{◌≡◌, ◌<◌, ◌≤◌, ℕ, true, false, List, map, All, Option, Some, None, length}
use Rattle.pat_tree.specs.Nested as tree
use Rattle.pat_tree.specs.Nested.{Nested, row, tree_at}
use Rattle.node_flow.specs.Branches.{branch_if}
use Rattle.node_flow.specs.Linked.{AllFollowed}
use Rattle.frame_state.specs.Ground.{Ground, tree_of, IsPart}
use Rattle.frame_state.specs.Begun.{is_behind, IsFixedPart}
use Rattle.frame_state.specs.Frames.{branch_rest, branch_row}

-- the branch of a lookbehind around a branch of a part
abbrev pub branch_look : Nested → Option ℕ → ℕ → Option ℕ
branch_look (tree.group None ts) outer k = outer
branch_look (tree.look false positive once ts) outer k = Some k
branch_look _ outer k = None

module _ (c : Ground) where
  -- each of them is followed alike
  pub record IsBranched (q : ℕ) (ks : List ℕ) : Type 0 where
    pub rows : branch_row c (tree_of c q) ≡ row (map (tree_at c.trees) ks)
    pub linked : AllFollowed c.rest (branch_rest c (tree_of c q) (c.rest q)) ks
    -- those of a lookbehind aren't refused
    pub fixed : is_behind (tree_of c q) ≡ true → All (IsFixedPart c) ks
    -- a lookbehind is around its own, and around those of a plain group what is around the group
    pub looked : All (λ k. c.look_branch k ≡ branch_look (tree_of c q) (c.look_branch q) k) ks
    -- of two or more each is its own branch, and around one that is alone is this one
    pub outer : Option ℕ
    pub own : All (λ k. c.branch k ≡ branch_if ks outer k) ks
    pub behind : All (λ k. c.rank q < c.rank k) ks

  -- and the search may come to each
  pub record AreBranches (q : ℕ) (ks : List ℕ) : Type 0 where
    pub branched : IsBranched q ks
    pub parts : All (IsPart c) ks
    pub few : length ks ≤ 4294967295
