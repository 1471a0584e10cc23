-- What is told of a pattern, beside the definitions that it goes by.
use Rattle.std.specs.Prelude.{◌≡◌, ℕ, ◌<◌, Bool, List, Option, Some, None}
use Rattle.byte_lanes.specs.Sets.{has_byte}
use Rattle.pat_tree.specs.Newlines.{end_kind, break_kind}
use Rattle.pat_tree.specs.Parts.{TreeParts, tree_of}
use Rattle.char_sets.specs.Sets.{class_has}
use Rattle.pat_lengths.specs.declared.backs.LengthFault.{LengthFault}
use Rattle.pat_check.specs.Lead.{lead_set}
use Rattle.pat_check.specs.declared.facts.CheckError.{CheckError}
use Rattle.pat_check.specs.declared.facts.CheckError.TheVariants.{Bad, Memory}

-- the bytes that every match of a finished tree begins with, by the folding in UTF
abbrev pub lead_set_of : TreeParts → (ℕ → ℕ) → Option (ℕ → Bool)
lead_set_of tree fold =
    lead_set tree.options.utf (end_kind tree.options.newline tree.options.utf)
    (break_kind tree.options.bsr tree.options.utf) (class_has tree) fold (tree_of tree)

-- the set holds the bytes that pass the test, and there is none where there is no test
abbrev pub IsByteSet : Option (List Bool) → Option (ℕ → Bool) → Type 0
IsByteSet None None = Unit {0}
IsByteSet (Some set) (Some test) = (b : ℕ) → b < 256 → has_byte set b ≡ test b
IsByteSet _ _ = ⊥

-- the refusal tells this fault; want of memory may come at any time
abbrev pub IsCheckError : Option LengthFault → CheckError → Type 0
IsCheckError fault (Bad number at) = fault ≡ Some (record { number = number; at = at })
IsCheckError fault Memory = Unit {0}
