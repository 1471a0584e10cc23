-- The branches of a pattern's lookbehinds: how far each begins before its place, and why a pattern is refused for them
-- (pcre2pattern, "Lookbehind assertions").
use Rattle.std.specs.Prelude.{◌≡◌, ◌≤◌, ℕ, ◌+◌, pos, true, false, max, List, [], ◌∷◌, length, Option, Some, None}
use Rattle.std.specs.Prelude.{slice_index_or}
use Rattle.std.specs.Option.{option_or}
use Rattle.pat_tree.specs.declared.nodes.Node.{Node}
use Rattle.pat_tree.specs.declared.nodes.Node.TheVariants as form
use Rattle.pat_tree.specs.declared.nodes.Placed.{Placed}
use Rattle.pat_tree.specs.Nested.{trees, tree_at}
use Rattle.pat_tree.specs.Parts.{TreeParts, tree_of}
use Rattle.node_flow.specs.Order.{order}
use Rattle.pat_lengths.specs.Lengths.{SomeLengths, counted, between, branch_lengths, branch_fault}
use Rattle.pat_lengths.specs.Spans.{kept, span_at}
use Rattle.pat_lengths.specs.declared.backs.Back.{Back}
use Rattle.pat_lengths.specs.declared.backs.LengthFault.{LengthFault}
use Rattle.pat_lengths.specs.declared.spans.Span.{Span}

-- the branches of a node that is a lookbehind
abbrev pub behind_branches : Node → List ℕ
behind_branches (form.Look true positive once branches) = []
behind_branches (form.Look false positive once branches) = branches
behind_branches _ = []

-- the node of a number, and its place in the pattern
abbrev pub placed_at : List Placed → ℕ → Placed
placed_at nodes k = slice_index_or nodes k (record { node = form.Empty; at = 0 })

-- the fault of a lookbehind at a place
abbrev pub fault_from : ℕ → Option ℕ → Option LengthFault
fault_from at None = None
fault_from at (Some number) = Some (record { number = pos number; at = at })

-- the greatest length of a branch, where it has one
abbrev pub length_of : SomeLengths → ℕ
length_of None = 0
length_of (Some a) = of_most a.most
  where
    of_most : Option ℕ → ℕ
    of_most None = 0
    of_most (Some most) = counted most

-- as they are kept: where there is no greatest length, none
abbrev pub no_back : Back
no_back = record { least = 0; most = 0 }

abbrev pub back_of : Option Span → Back
back_of None = no_back
back_of (Some span) = of_most span.most
  where
    of_most : Option ℕ → Back
    of_most None = no_back
    of_most (Some most) = record { least = span.least; most = most }

-- the lengths that are kept of a branch
abbrev pub lengths_back : Back → SomeLengths
lengths_back back = between back.least (Some back.most)

-- the lengths that a list has for a branch
abbrev pub back_at : List Back → ℕ → Back
back_at backs k = slice_index_or backs k no_back

module _ (tree : TreeParts) where
  -- the lengths of the part of this number, as a branch of a lookbehind
  abbrev pub lengths_at : ℕ → SomeLengths
  lengths_at k = branch_lengths tree.options.match_unset_backref (tree_of tree) (tree_at (trees tree.nodes) k)

  -- the first of these branches that is refused, at the place of their lookbehind
  abbrev pub fault_among : ℕ → List ℕ → Option LengthFault
  fault_among at [] = None
  fault_among at (k ∷ ks) = option_or (fault_from at (branch_fault (lengths_at k))) (fault_among at ks)

  abbrev pub fault_of_node : Placed → Option LengthFault
  fault_of_node p = fault_among p.at (behind_branches p.node)

  -- the first among these parts
  abbrev pub fault_in : List ℕ → Option LengthFault
  fault_in [] = None
  fault_in (k ∷ ks) = option_or (fault_of_node (placed_at tree.nodes k)) (fault_in ks)

  -- the leftmost of the pattern
  abbrev pub first_fault : Option LengthFault
  first_fault = fault_in (order tree.nodes tree.root)

  -- the greatest length of these branches
  abbrev pub greatest_of : List ℕ → ℕ
  greatest_of [] = 0
  greatest_of (k ∷ ks) = max (length_of (lengths_at k)) (greatest_of ks)

  abbrev pub greatest_in : List ℕ → ℕ
  greatest_in [] = 0
  greatest_in (k ∷ ks) = max (greatest_of (behind_branches (placed_at tree.nodes k).node)) (greatest_in ks)

  -- the greatest length of a branch of a lookbehind in the pattern, 0 where it has none
  abbrev pub greatest_back : ℕ
  greatest_back = greatest_in (order tree.nodes tree.root)

  -- a list that has the lengths of each part up to the root that is not refused as a branch
  pub record AreBacks (backs : List Back) : Type 0 where
    pub count : length backs ≡ tree.root + 1
    pub each : (k : ℕ) → k ≤ tree.root → branch_fault (lengths_at k) ≡ None
        → lengths_at k ≡ lengths_back (back_at backs k)

  -- what is kept of each part up to the root is its lengths as a branch
  pub record AreBranches (spans : List (Option Span)) : Type 0 where
    pub count : length spans ≡ tree.root + 1
    pub each : (k : ℕ) → k ≤ tree.root → span_at spans k ≡ kept (lengths_at k)
