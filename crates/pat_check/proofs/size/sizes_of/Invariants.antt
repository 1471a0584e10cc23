use Rattle.std.proofs.Common.{◌≡◌, length}
use Rattle.pat_tree.specs.Nested.{trees}
use Rattle.pat_check.specs.Size.{KeepSizes}
use Rattle.pat_check.proofs.size.sizes_of.Given as goal

abbrev pub invariant-loop-id : goal.invariant-loop-id
invariant-loop-id l = (length l.sizes.items ≡ l.id) × KeepSizes (trees l.tree.nodes) l.sizes.items
