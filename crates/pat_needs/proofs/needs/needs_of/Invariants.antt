use Rattle.std.proofs.Common.{◌≡◌, length}
use Rattle.pat_tree.specs.Nested.{trees}
use Rattle.pat_needs.specs.NeedTables.{may_of, KeepNeeds}
use Rattle.pat_needs.proofs.needs.needs_of.Given as goal

abbrev pub invariant-loop-id : goal.invariant-loop-id
invariant-loop-id l = (length l.needs.items ≡ l.id) × KeepNeeds (may_of l.tree) l.tree.options.utf l.anywhere
    (trees l.tree.nodes) l.needs.items
