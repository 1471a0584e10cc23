-- The groups that references, conditions and calls name (pcre2pattern, "Backreferences", "Conditional groups",
-- "Recursive patterns").
use Rattle.std.specs.List.{list_any, Any}
use Rattle.std.specs.Prelude.{◌≡◌, ◌≤◌, All, min, ℕ, Bool, true, false, ◌==◌, ◌||◌, if◌then◌else◌, List, [], ◌∷◌}
use Rattle.std.specs.Prelude.{◌++◌, map, slice_index_or, Option, Some, None}
use Rattle.pat_tree.specs.declared.nodes.Cond.{Cond}
use Rattle.pat_tree.specs.declared.nodes.Cond.TheVariants.{AnySet, InCallOf}
use Rattle.pat_tree.specs.declared.nodes.Node.{Node}
use Rattle.pat_tree.specs.declared.nodes.Node.TheVariants as node
use Rattle.pat_tree.specs.declared.nodes.Placed.{Placed}
use Rattle.pat_tree.specs.Rules.{numbers_of}

-- in a call 0 is the whole pattern, and names no group
abbrev pub beside_whole : List ℕ → List ℕ
beside_whole [] = []
beside_whole (n ∷ ns) = if n == 0 then beside_whole ns else n ∷ beside_whole ns

abbrev pub named_in : Cond → List ℕ
named_in (AnySet groups) = groups
named_in (InCallOf groups) = beside_whole groups
named_in _ = []

-- the groups that a node names
abbrev pub named_by : Node → List ℕ
named_by (node.Ref groups caseless) = groups
named_by (node.Cond test yes' no') = named_in test
named_by (node.Call n) = beside_whole (n ∷ [])
named_by _ = []

-- the number of a call stands for the whole pattern or for a group
unfoldable pub is_called : (ℕ → Bool) → ℕ → Bool
is_called stands n = n == 0 || stands n

-- each with the node's place
abbrev pub refs_of : Placed → List (ℕ × ℕ)
refs_of p = map (λ n. (p.at, n)) (named_by p.node)

-- the groups that the nodes name, in the order of adding
unfoldable pub refs : List Placed → List (ℕ × ℕ)
refs [] = []
refs (p ∷ ps) = refs_of p ++ refs ps

abbrev pub is_in : ℕ → List ℕ → Bool
is_in x ks = list_any (λ k. k == x) ks

-- the node is a capturing group of this number
abbrev pub is_group : ℕ → Node → Bool
is_group n t = is_in n (numbers_of t)

-- some node is a capturing group of this number
abbrev pub has_group : List Placed → ℕ → Bool
has_group ps n = list_any (λ p. is_group n p.node) ps

-- the number has a mark
abbrev pub marked : List Bool → ℕ → Bool
marked marks n = slice_index_or marks n false

abbrev pub least_of : ℕ → Option ℕ → ℕ
least_of a None = a
least_of a (Some b) = min a b

-- the leftmost place that names a group that isn't there
abbrev pub bad_ref : (ℕ → Bool) → List (ℕ × ℕ) → Option ℕ
bad_ref exists [] = None
bad_ref exists (r ∷ rs) = if exists r.1 then bad_ref exists rs else Some (least_of r.0 (bad_ref exists rs))

-- what makes a place the leftmost bad one: a group that does not stand is named there, and at no place before it;
-- and where there is none, each group that is named stands
abbrev pub IsLeftmost : (ℕ → Bool) → List (ℕ × ℕ) → Option ℕ → Type 0
IsLeftmost stands named None = All (λ r. stands r.1 ≡ true) named
IsLeftmost stands named (Some at) = Any (λ r. (r.0 ≡ at) × (stands r.1 ≡ false)) named × All
    (λ r. stands r.1 ≡ false → at ≤ r.0) named
