-- Rings of nodes that lead to one another by children, calls and references.
use Rattle.std.specs.Prelude.{◌≡◌, ◌⊎◌, ℕ, ◌<◌, ◌≤◌, ◌==◌, ◌&&◌, ◌||◌, nat_le, nat_lt, Bool, true, false, List, ◌++◌}
use Rattle.std.specs.Prelude.{All, length, slice_index_or, Option, Some, None}
use Rattle.std.specs.List.{Contains}
use Rattle.pat_tree.specs.declared.nodes.Node.{Node}
use Rattle.pat_tree.specs.Nested.{Nested, nest, tree_at}
use Rattle.pat_tree.specs.Rules.{asserted_by, is_test, kids_of}
use Rattle.pat_lengths.specs.Leading.{Leads, names_of, places_of}
use Rattle.pat_lengths.specs.Nodes.{named_by}
use Rattle.pat_lengths.specs.Passing.{flagged, place_of}
use Rattle.pat_lengths.specs.declared.rings.Plan.{Plan}
use Rattle.pat_lengths.specs.declared.rings.Rings.{Rings}
use Rattle.pat_lengths.specs.declared.rings.Spot.{Spot}
use Rattle.pat_lengths.specs.declared.rings.Step.{Step}
use Rattle.pat_lengths.specs.declared.rings.Step.TheVariants.{Come, Leave}

abbrev pub step_node : Step → ℕ
step_node (Come k) = k
step_node (Leave k) = k

-- what a search does and has done is of nodes up to the root
pub record IsPlan (root : ℕ) (plan : Plan) : Type 0 where
  pub waiting : All (λ step. step_node step ≤ root) plan.waiting.items
  pub order : All (λ k. k ≤ root) plan.order.items

abbrev pub spot_at : List Spot → ℕ → Spot
spot_at spots k = slice_index_or spots k (record { came = 0; left = 0; low = 0; ring = 0 })

abbrev pub top_at : List ℕ → ℕ → ℕ
top_at tops ring = slice_index_or tops ring 0

module _ (rings : Rings) where
  abbrev pub spot : ℕ → Spot
  spot k = spot_at rings.spots.items k

  abbrev pub ring_at : ℕ → ℕ
  ring_at k = (spot k).ring

  -- the first node of a node's ring
  abbrev pub top : ℕ → ℕ
  top k = top_at rings.tops.items (ring_at k)

  abbrev pub is_top : ℕ → Bool
  is_top k = top k == k

  abbrev pub is_no_later : ℕ → ℕ → Bool
  is_no_later k j = nat_le (ring_at j) (ring_at k)

  abbrev pub is_nearer : ℕ → ℕ → Bool
  is_nearer k j =
      (ring_at j == ring_at k)
      && (is_top j || nat_lt (spot j).low (spot k).low
      || (((spot j).low == (spot k).low) && nat_lt (spot j).left (spot k).left))

  abbrev pub is_later : ℕ → ℕ → Bool
  is_later k j = (ring_at k == ring_at j) && nat_lt (spot k).came (spot j).came

  -- of a place
  abbrev pub is_in_ring : ℕ → Option ℕ → Bool
  is_in_ring ring None = false
  is_in_ring ring (Some k) = ring_at k == ring

-- whatever group a node leads to, the other leads to as well where it is reached from there
abbrev pub LeadsOn : Nested → List Nested → ℕ → ℕ → Type 0
LeadsOn whole trees k j = (m : ℕ) → Leads whole trees m k → Leads whole trees m j

module _ (whole : Nested) (trees : List Nested) (root : ℕ) (places : List (Option ℕ)) (rings : Rings) where
  -- a node leads to no later ring
  pub record GoesDown (k : ℕ) : Type 0 where
    pub node : Node
    pub is : nest trees node ≡ tree_at trees k
    pub tests : All (λ j. is_test (tree_at trees j) ≡ true) (asserted_by node)
    pub below : All (λ j. j < k) (kids_of node)
    pub down : All (λ j. is_no_later rings k j ≡ true) (kids_of node ++ places_of places (names_of node))

  -- a node leads to one that is nearer to the first of its ring
  pub record GoesUp (k : ℕ) : Type 0 where
    pub to : ℕ
    pub within : to ≤ root
    pub on : LeadsOn whole trees k to
    pub nearer : is_nearer rings k to ≡ true

  -- a node of its ring to which the search came before leads to it
  pub record IsLed (k : ℕ) : Type 0 where
    pub from : ℕ
    pub within : from ≤ root
    pub on : LeadsOn whole trees from k
    pub later : is_later rings from k ≡ true

  -- a node of its ring names the group
  pub record IsNamed (n : ℕ) : Type 0 where
    pub by : ℕ
    pub within : by ≤ root
    pub named : Contains (named_by (tree_at trees by)) n
    pub ring : is_in_ring rings (ring_at rings by) (place_of places n) ≡ true

  pub record AreRings : Type 0 where
    pub down : (k : ℕ) → k ≤ root → GoesDown k
    pub up : (k : ℕ) → k ≤ root → (is_top rings k ≡ true) ⊎ GoesUp k
    pub led : (k : ℕ) → k ≤ root → (is_top rings k ≡ true) ⊎ IsLed k

-- those of these groups that are in a ring are marked
pub record Marked (rings : Rings) (places : List (Option ℕ)) (ring : ℕ) (named : List ℕ) (old new : List Bool)
    : Type 0 where
  pub size : length new ≡ length old
  pub kept : (n : ℕ) → flagged old n ≡ true → flagged new n ≡ true
  pub only : (n : ℕ) → flagged new n ≡ true
      → (flagged old n ≡ true) ⊎ (Contains named n × (is_in_ring rings ring (place_of places n) ≡ true))
  pub marked : All (λ n. is_in_ring rings ring (place_of places n) ≡ true → flagged new n ≡ true) named
