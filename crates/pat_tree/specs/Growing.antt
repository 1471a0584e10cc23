-- How a draft grows, and which of its nodes no other has taken.
use Rattle.std.specs.Prelude.{◌≡◌, ℕ, ◌+◌, ◌<◌, Bool, true, not, ◌&&◌, List, [], ◌∷◌, ◌++◌, map, length}
use Rattle.std.specs.Prelude.{if◌then◌else◌, All}
use Rattle.pat_tree.specs.declared.nodes.Placed.{Placed}
use Rattle.pat_tree.specs.Nested.{Nested, tree_at, trees}
use Rattle.pat_tree.specs.Rules.{kids_of}
use Rattle.pat_tree.specs.Refs.{is_in}

-- the numbers of the draft name these trees
pub record Stand (ps : List Placed) (ids : List ℕ) (found : List Nested) : Type 0 where
  pub below : All (λ k. k < length ps) ids
  pub trees_are : map (tree_at (trees ps)) ids ≡ found

-- the draft has grown: each number still names its tree
pub record Grows (old new : List Placed) : Type 0 where
  pub more : List Nested
  pub trees_are : trees new ≡ trees old ++ more

-- and this number names this tree
pub record Makes (old new : List Placed) (id : ℕ) (t : Nested) : Type 0 where
  pub grows : Grows old new
  pub below : id < length new
  pub is : tree_at (trees new) id ≡ t

abbrev pub without : List ℕ → List ℕ → List ℕ
without ks [] = []
without ks (x ∷ xs) = if is_in x ks then without ks xs else x ∷ without ks xs

-- the numbers that no node has taken as a child, in the order of adding, after n nodes
unfoldable pub loose_after : ℕ → List ℕ → List Placed → List ℕ
loose_after n before [] = before
loose_after n before (p ∷ ps) = loose_after (n + 1) (without (kids_of p.node) before ++ n ∷ []) ps

unfoldable pub loose : List Placed → List ℕ
loose ps = loose_after 0 [] ps

-- each node lies under this one: every other is a child
abbrev pub AllUnder : List Placed → ℕ → Type 0
AllUnder ps root = loose ps ≡ root ∷ []

-- each is loose, and none comes twice
abbrev pub is_fresh : List ℕ → List ℕ → Bool
is_fresh free [] = true
is_fresh free (k ∷ ks) = is_in k free && not (is_in k ks) && is_fresh free ks

-- these are the last of the loose numbers
pub record EndsIn (ps : List Placed) (ks : List ℕ) : Type 0 where
  pub front : List ℕ
  pub is : loose ps ≡ front ++ ks

-- where they were the last of the loose numbers, this one has their place
abbrev pub Replaces : List Placed → List ℕ → List Placed → ℕ → Type 0
Replaces old ks new id = (front : List ℕ) → loose old ≡ front ++ ks → loose new ≡ front ++ id ∷ []

-- the children of each node have smaller numbers, where these nodes follow n others
abbrev pub AreBelow : ℕ → List Placed → Type 0
AreBelow n [] = Unit {0}
AreBelow n (p ∷ ps) = All (λ k. k < n) (kids_of p.node) × AreBelow (n + 1) ps
