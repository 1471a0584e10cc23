use Rattle.std.proofs.Common.{◌≡◌, length}
use Rattle.pat_tree.specs.Nested.{trees}
use Rattle.char_sets.specs.Sets.{class_has}
use Rattle.pat_bounds.specs.BoundTables.{KeepBounds}
use Rattle.pat_bounds.proofs.bounds.bounds_of.Given as goal

abbrev pub invariant-loop-id : goal.invariant-loop-id
invariant-loop-id l = (length l.bounds.items ≡ l.id) × KeepBounds (class_has l.tree) (trees l.tree.nodes) l.bounds.items
