-- A row of the table that the code reads.
use Rattle.std.specs.Prelude.{ℕ, List}
use Rattle.std.specs.Borrow.{Bor}
use Rattle.uni_text.specs.declared.properties.Prop.{Prop}

abbrev pub row_of : Bor (List ℕ) × Prop → List ℕ × Prop
row_of row = (row.0.now, row.1)
