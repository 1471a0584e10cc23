use Rattle.std.proofs.Common.{◌≡◌, ◌<◌, ℕ, true, length}
use Rattle.pat_tree.specs.Nested.{trees}
use Rattle.pat_shape.specs.IsShape.{dots_of}
use Rattle.pat_shape.specs.Plain.{AreTaking, IsPlainAt}
use Rattle.pat_shape.proofs.plain.is_plain.Given as goal

abbrev pub invariant-loop-id : goal.invariant-loop-id
invariant-loop-id l = record {
  count : length l.marks.items ≡ l.id;
  taking : AreTaking (trees l.tree.nodes) l.marks.items;
  plain : (k : ℕ) → k < l.id → IsPlainAt (dots_of l.tree true) (trees l.tree.nodes) k;
}
