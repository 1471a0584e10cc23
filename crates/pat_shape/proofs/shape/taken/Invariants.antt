use Rattle.std.proofs.Common.{◌≡◌, ◌≤◌, length, take, map}
use Rattle.pat_tree.specs.Nested.{tree_at, trees}
use Rattle.regex_hir.specs.Meaning.{meaning}
use Rattle.pat_shape.specs.IsShape.{AreShapes, KeepShapes}
use Rattle.pat_shape.proofs.shape.taken.Given as goal

abbrev pub invariant-loop-i : goal.invariant-loop-i
invariant-loop-i l = record {
  within : l.i ≤ length l.kids;
  same : length l.shapes ≡ length l.initial.shapes;
  kept : KeepShapes l.tree l.lined l.shapes;
  are : AreShapes l.tree l.lined (map (tree_at (trees l.tree.nodes)) (take l.i l.kids)) (map meaning l.subs.items);
}
