use Rattle.std.proofs.Common.{◌≡◌, ℕ, ◌<◌, length}
use Rattle.char_sets.specs.Sets.{class_has}
use Rattle.char_sets.specs.Table.{table_has}
use Rattle.char_sets.proofs.table.ClassTable.build.Given as goal

abbrev pub invariant-loop-id : goal.invariant-loop-id
invariant-loop-id l = record {
  count : length l.entries.items ≡ l.id;
  classes : (class : ℕ) → class < l.id → (c : ℕ) → table_has l.entries.items class c ≡ class_has l.tree class c;
}
