use Rattle.std.proofs.Common.{◌≡◌, drop, map}
use Rattle.pat_tree.specs.Nested.{row, tree_at, trees}
use Rattle.char_sets.specs.Sets.{class_has}
use Rattle.pat_bounds.specs.Bounds.{all_begin_apart}
use Rattle.pat_bounds.proofs.bounds.is_alone.Given as goal

abbrev pub invariant-loop-i : goal.invariant-loop-i
invariant-loop-i l =
    let of = tree_at (trees l.tree.nodes) in
    all_begin_apart (class_has l.tree) l.item (row (map of l.others)) ≡ all_begin_apart (class_has l.tree) l.item
    (row (map of (drop l.i l.others)))
