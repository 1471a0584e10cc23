-- The sets with a name that a class takes.
use Rattle.std.specs.Prelude.{ℕ, Bool, false, not, if◌then◌else◌}
use Rattle.pat_tree.specs.declared.nodes.Part.{Part}
use Rattle.pat_tree.specs.declared.nodes.Part.TheVariants.{Range, Set}
use Rattle.char_sets.specs.Sets.{set_has, part_has}
use Rattle.char_sets.specs.declared.named.NamedSet.{NamedSet}

-- c is in the set, or of one that is reversed outside it
abbrev pub set_in : NamedSet → ℕ → Bool
set_in named c =
    let inside = set_has named.ucp named.set c in
    if named.reversed then not inside else inside

-- a part that is a set takes c
abbrev pub set_part_has : Bool → ℕ → Part → Bool
set_part_has caseless c (Range from to) = false
set_part_has caseless c (Set set reversed ucp) = part_has false caseless (Set set reversed ucp) c
