use Rattle.std.proofs.Common.{◌≡◌, ℕ, length}
use Rattle.pat_tree.specs.Nested.{trees}
use Rattle.pat_check.specs.Starts.{FoldsIn, KeepLeads}
use Rattle.pat_check.proofs.leads.leads.Given as goal

abbrev pub invariant-loop-id : goal.invariant-loop-id
invariant-loop-id l = (length l.starts.items ≡ l.id)
    × ((fold : ℕ → ℕ) → FoldsIn l.tree.options.utf fold → KeepLeads l.tree fold (trees l.tree.nodes) l.starts.items)
