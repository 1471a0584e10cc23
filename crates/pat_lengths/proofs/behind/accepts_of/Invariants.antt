use Rattle.std.proofs.Common.{◌≡◌, length}
use Rattle.pat_tree.specs.Nested.{trees}
use Rattle.pat_lengths.specs.Spans.{KeepAccepts}
use Rattle.pat_lengths.proofs.behind.accepts_of.Given as goal

abbrev pub invariant-loop-id : goal.invariant-loop-id
invariant-loop-id l = (length l.accepts.items ≡ l.id) × KeepAccepts (trees l.tree.nodes) l.accepts.items
