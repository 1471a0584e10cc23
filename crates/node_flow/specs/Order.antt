-- The order in which the parts of a tree stand in its pattern.
use Rattle.std.specs.List.{IsDistinct}
use Rattle.std.specs.Prelude.{◌≡◌, ◌<◌, ◌≤◌, ℕ, suc, ◌+◌, ◌==◌, if◌then◌else◌, true, nat_eq, All, List, [], ◌∷◌}
use Rattle.std.specs.Prelude.{◌++◌, flat_map, length, slice_index, slice_index_or}
use Rattle.pat_tree.specs.declared.nodes.Placed.{Placed}
use Rattle.pat_tree.specs.Parts.{TreeParts}
use Rattle.pat_tree.specs.Rules.{kids_of}
use Rattle.pat_tree.specs.Refs.{is_in}
use Rattle.pat_tree.specs.Sound.{TreeRules}

abbrev pub list_of : List (List ℕ) → ℕ → List ℕ
list_of lists k = slice_index_or lists k []

-- for each node itself and then what its children have, in turn, after the lists of earlier nodes
unfoldable pub orders_after : List (List ℕ) → List Placed → List (List ℕ)
orders_after before [] = before
orders_after before (p ∷ ps) =
    orders_after (before ++ (length before ∷ flat_map (list_of before) (kids_of p.node)) ∷ []) ps

-- a part and those under it, each before its children, and these in order
unfoldable pub order : List Placed → ℕ → List ℕ
order nodes part = list_of (orders_after [] nodes) part

-- a list that has for each part under the root its place in the order, counted from 0
pub record AreRanks (nodes : List Placed) (root : ℕ) (ranks : List ℕ) : Type 0 where
  pub count : length ranks ≡ root + 1
  pub each : (i : ℕ) → i < length (order nodes root) → slice_index ranks (slice_index (order nodes root) i) ≡ i

-- the place of a number in a list; past its end where it is in none
unfoldable pub place_in : List ℕ → ℕ → ℕ
place_in [] k = 0
place_in (x ∷ xs) k = if x == k then 0 else suc (place_in xs k)

-- the place of a part in the whole, and the one past those under it
abbrev pub rank : List Placed → ℕ → ℕ → ℕ
rank nodes root part = place_in (order nodes root) part

abbrev pub past : List Placed → ℕ → ℕ → ℕ
past nodes root part = rank nodes root part + length (order nodes part)

-- these parts stand one after the other with those under them, between these places
abbrev pub StandInTurn : (ℕ → ℕ) → (ℕ → ℕ) → ℕ → List ℕ → ℕ → Type 0
StandInTurn rank past from [] to = from ≡ to
StandInTurn rank past from (k ∷ ks) to = (rank k ≡ from) × StandInTurn rank past (past k) ks to

-- Of every finished tree.

-- a part comes before those under it, and these stand child by child
abbrev pub PartsComeFirst : Type 0
PartsComeFirst = (t : TreeParts) → TreeRules t → (q : ℕ) → q ≤ t.root → (other : Placed) →
    order t.nodes q ≡ q ∷ flat_map (order t.nodes) (kids_of (slice_index_or t.nodes q other).node)

-- no part stands at two places
abbrev pub PartsStandOnce : Type 0
PartsStandOnce = (t : TreeParts) → TreeRules t → IsDistinct nat_eq (order t.nodes t.root)

-- these stand side by side in the whole
pub record StandTogether (whole part : List ℕ) : Type 0 where
  pub front : List ℕ
  pub back : List ℕ
  pub is : whole ≡ front ++ part ++ back

-- a part and those under it stand side by side
abbrev pub PartsStandTogether : Type 0
PartsStandTogether = (t : TreeParts) → TreeRules t → (q : ℕ) → is_in q (order t.nodes t.root) ≡ true
    → StandTogether (order t.nodes t.root) (order t.nodes q)

-- the children of a part of the whole are parts of it, and they stand in turn behind the part
abbrev pub ChildrenStandInTurn : Type 0
ChildrenStandInTurn =
    (t : TreeParts) → TreeRules t → (q : ℕ) → is_in q (order t.nodes t.root) ≡ true → (other : Placed) →
    All (λ k. is_in k (order t.nodes t.root) ≡ true) (kids_of (slice_index_or t.nodes q other).node)
    × StandInTurn (rank t.nodes t.root) (past t.nodes t.root) (suc (rank t.nodes t.root q))
    (kids_of (slice_index_or t.nodes q other).node) (past t.nodes t.root q)
