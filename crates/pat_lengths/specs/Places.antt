-- Where the groups of a tree stand.
use Rattle.std.specs.Prelude.{◌≡◌, ℕ}
use Rattle.pat_tree.specs.Nested.{trees}
use Rattle.pat_tree.specs.Parts.{TreeParts}
use Rattle.node_flow.specs.Order.{order}
use Rattle.pat_lengths.specs.Passing.{called_place, place_of}
use Rattle.pat_lengths.specs.declared.groups.Groups.{Groups}

-- by their numbers, of which 0 is the whole pattern
abbrev pub ArePlaces : TreeParts → Groups → Type 0
ArePlaces t groups =
    (n : ℕ) → place_of groups.places.items n ≡ called_place (trees t.nodes) t.root (order t.nodes t.root) n
