use Rattle.std.proofs.Common.{◌≡◌, length}
use Rattle.pat_shape.specs.IsShape.{KeepShapes}
use Rattle.pat_shape.proofs.shape.shape_of.Given as goal

abbrev pub invariant-loop-id : goal.invariant-loop-id
invariant-loop-id l = (length l.shapes.items ≡ l.id) × KeepShapes l.tree l.lined l.shapes.items
