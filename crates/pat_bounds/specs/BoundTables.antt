-- Bounds as they are kept for each node. Where a number doesn't fit, none is kept.
use Rattle.std.specs.Prelude.{◌≡◌, ◌<◌, ℕ, Bool, List, [], ◌∷◌, map, length, Option, Some, None, slice_index_or}
use Rattle.pat_tree.specs.Nested.{Nested, row, tree_at, trees}
use Rattle.pat_tree.specs.Parts.{TreeParts}
use Rattle.char_sets.specs.Sets.{class_has}
use Rattle.pat_bounds.specs.declared.bounds.Bound.{Bound}
use Rattle.pat_bounds.specs.Bounds.{first_item, is_alone, bound, bound_before, bound_in_turn, bound_of_one}
use Rattle.pat_bounds.specs.Bounds.{bound_of_choices}

-- what is told is what is meant
abbrev pub Refines : {A : Type 0} → Option A → Option A → Type 0
Refines None y = Unit {0}
Refines (Some a) y = y ≡ Some a

abbrev pub bound_at : List (Option Bound) → ℕ → Option Bound
bound_at bounds k = slice_index_or bounds k None

abbrev pub KeepBounds : (ℕ → ℕ → Bool) → List Nested → List (Option Bound) → Type 0
KeepBounds has trees bounds = (k : ℕ) → k < length bounds → Refines (bound_at bounds k) (bound has (tree_at trees k))

-- the bound of the parts, one after the other, where those of each are kept
abbrev pub RefinesTurn : TreeParts → List (Option Bound) → Option Bound → List ℕ → Type 0
RefinesTurn tree bounds result ks =
    KeepBounds (class_has tree) (trees tree.nodes) bounds
    → Refines result (bound_in_turn (class_has tree) (row (map (tree_at (trees tree.nodes)) ks)))

-- of branches, two or more of which take a Step each
abbrev pub RefinesOne : TreeParts → List (Option Bound) → Option Bound → List ℕ → Type 0
RefinesOne tree bounds result ks =
    KeepBounds (class_has tree) (trees tree.nodes) bounds
    → Refines result (bound_of_one (class_has tree) (row (map (tree_at (trees tree.nodes)) ks)))

abbrev pub RefinesChoices : TreeParts → List (Option Bound) → Option Bound → List ℕ → Type 0
RefinesChoices tree bounds result ks =
    KeepBounds (class_has tree) (trees tree.nodes) bounds
    → Refines result (bound_of_choices (class_has tree) (row (map (tree_at (trees tree.nodes)) ks)))

-- whether the first of some branches is left only where none of the others is
abbrev pub is_alone_of : TreeParts → ℕ → List ℕ → Bool
is_alone_of tree k ks =
    let of = tree_at (trees tree.nodes) in
    is_alone (class_has tree) (first_item (of k)) (row (map of ks))

-- the bound of the first of the parts, before the others
abbrev pub IsBefore : TreeParts → List (Option Bound) → Option Bound → List ℕ → Type 0
IsBefore tree bounds result [] = Unit {0}
IsBefore tree bounds result (k ∷ ks) =
    let has = class_has tree in
    let of = tree_at (trees tree.nodes) in
    Refines (bound_at bounds k) (bound has (of k))
    → Refines result (bound_before has (of k) (row (map of ks)) (bound has (of k)))
