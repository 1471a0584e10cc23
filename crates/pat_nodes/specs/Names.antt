-- The name that a group gets.
use Rattle.std.specs.Prelude.{ℕ, ◌≤◌, List, length, slice_range, Option, Some, None}
use Rattle.pat_tree.specs.declared.names.NameEntry.{NameEntry}
use Rattle.pat_tree.specs.Names.{with_name}
use Rattle.pat_nodes.specs.declared.names.Name.{Name}

-- the name stands in the text
abbrev pub Stands : List ℕ → Name → Type 0
Stands text name = (name.from ≤ name.to) × (name.to ≤ length text)

abbrev pub entry_of : List ℕ → Name → NameEntry
entry_of text name = record { name = slice_range text name.from name.to; group = name.group }

-- the table with the name that a group gets, if any
abbrev pub with_given : List ℕ → Option Name → List NameEntry → List NameEntry
with_given text None table = table
with_given text (Some name) table = with_name (entry_of text name) table
