-- A search over the nodes that a group leads to.
use Rattle.std.specs.Prelude.{◌≡◌, ◌⊎◌, ℕ, suc, ◌+◌, ◌<◌, ◌==◌, Bool, true, false, Option, Some, List, [], ◌∷◌, ◌++◌}
use Rattle.std.specs.Prelude.{All, flat_map, length}
use Rattle.std.specs.List.{list_any, Contains}
use Rattle.pat_tree.specs.declared.nodes.Node.{Node}
use Rattle.pat_tree.specs.declared.nodes.Node.TheVariants as node
use Rattle.pat_tree.specs.Nested.{Nested, tree_at}
use Rattle.pat_tree.specs.Rules.{number_in}
use Rattle.pat_lengths.specs.Lengths.{names_of_group, lead_to}
use Rattle.pat_lengths.specs.Nodes.{named_in}
use Rattle.pat_lengths.specs.Passing.{flagged, place_of}
use Rattle.pat_lengths.specs.declared.leading.Reached.{Reached}

-- the groups that a call or a reference names
abbrev pub names_of : Node → List ℕ
names_of (node.Call n) = n ∷ []
names_of (node.Ref groups caseless) = groups
names_of _ = []

-- where these groups stand
abbrev pub places_of : List (Option ℕ) → List ℕ → List ℕ
places_of places ns = flat_map (λ n. number_in (place_of places n)) ns

-- how many flags are not set
abbrev pub unset : List Bool → ℕ
unset [] = 0
unset (true ∷ flags) = unset flags
unset (false ∷ flags) = suc (unset flags)

abbrev pub is_reached : Reached → ℕ → Bool
is_reached r k = flagged r.seen.items k

-- each node that is reached is listed once
pub record IsListed (r : Reached) : Type 0 where
  pub listed : (k : ℕ) → is_reached r k ≡ true → Contains r.nodes.items k
  pub within : All (λ k. is_reached r k ≡ true) r.nodes.items
  pub count : length r.nodes.items + unset r.seen.items ≡ length r.seen.items

-- nothing is reached of so many nodes
pub record IsBegun (count : ℕ) (r : Reached) : Type 0 where
  pub none : (k : ℕ) → is_reached r k ≡ false
  pub size : length r.seen.items ≡ count
  pub listed : IsListed r

-- these nodes are reached as well
pub record Grows (old new : Reached) (ids : List ℕ) : Type 0 where
  pub kept : (k : ℕ) → is_reached old k ≡ true → is_reached new k ≡ true
  pub added : All (λ k. is_reached new k ≡ true) ids
  pub only : (k : ℕ) → is_reached new k ≡ true → (is_reached old k ≡ true) ⊎ Contains ids k
  pub later : List ℕ
  pub front : new.nodes.items ≡ old.nodes.items ++ later
  pub size : length new.seen.items ≡ length old.seen.items
  pub listed : IsListed old → IsListed new

-- the groups that are named under a node
abbrev pub under_node : List Nested → ℕ → List ℕ
under_node trees k = named_in (tree_at trees k)

-- the group leads back to itself
pub record Comes (whole : Nested) (m : ℕ) : Type 0 where
  pub after : ℕ
  pub is : lead_to whole after (names_of_group whole m) m ≡ true

-- it does where the node leads to it
abbrev pub Leads : Nested → List Nested → ℕ → ℕ → Type 0
Leads whole trees m k = (d : ℕ) → lead_to whole d (under_node trees k) m ≡ true → Comes whole m

-- What is named under a node is another group, whose node has a flag, or is named under a child that has one.
abbrev pub Closed : List Nested → List (Option ℕ) → ℕ → List Bool → ℕ → Type 0
Closed trees places m seen k =
    (q : ℕ → Bool)
    → ((x : ℕ) → (x == m) ≡ false → ((j : ℕ) → place_of places x ≡ Some j → flagged seen j ≡ true) → q x ≡ false)
    → ((j : ℕ) → j < k → flagged seen j ≡ true → list_any q (under_node trees j) ≡ false)
    → list_any q (under_node trees k) ≡ false
