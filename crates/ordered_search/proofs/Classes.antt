-- The classes of a finished tree are those that a search of it is about.
use Rattle.std.proofs.Common.{◌≡◌, ℕ, zero, suc, Bool, List, [], ◌∷◌, refl}
use Rattle.std.specs.Prelude.{slice_get, slice_index_or}
use Rattle.pat_tree.specs.declared.nodes.ClassSpec.{ClassSpec}
use Rattle.pat_tree.specs.Parts.{TreeParts}
use Rattle.match_items.specs.char_sets.Sets.{takes, no_class, class_has}
use Rattle.ordered_search.specs.Setting.{class_holds}

class_same : (utf : Bool) (cs : List ClassSpec) (n c : ℕ)
    → takes utf (slice_index_or cs n no_class) c ≡ class_holds utf (slice_get cs n) c
class_same utf [] n c = refl
class_same utf (x ∷ cs) zero c = refl
class_same utf (x ∷ cs) (suc n) c = class_same utf cs n c

pub class_is : (tree : TreeParts) (n c : ℕ) → class_has tree n c ≡ class_holds tree.options.utf
    (slice_get tree.classes n) c
unfolding class_has
class_is tree n c = class_same tree.options.utf tree.classes n c
