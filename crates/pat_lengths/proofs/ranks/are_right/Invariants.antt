use Rattle.std.proofs.Common.{◌≡◌, ◌⊎◌, ℕ, ◌<◌, true}
use Rattle.pat_tree.specs.Nested.{trees}
use Rattle.pat_tree.specs.Parts.{tree_of}
use Rattle.pat_lengths.specs.Passing.{flagged}
use Rattle.pat_lengths.specs.Rings.{GoesDown, GoesUp, IsLed, is_top}
use Rattle.pat_lengths.proofs.ranks.are_right.Given as goal

abbrev pub invariant-loop-id : goal.invariant-loop-id
invariant-loop-id l =
    let whole = tree_of l.tree in
    let ts = trees l.tree.nodes in
    let root = l.tree.root in
    let places = l.groups.places.items in
    record {
      down : (k : ℕ) → k < l.id → GoesDown whole ts root places l.rings k;
      up : (k : ℕ) → k < l.id → (is_top l.rings k ≡ true) ⊎ GoesUp whole ts root places l.rings k;
      led : (k : ℕ) → flagged l.led.items k ≡ true → IsLed whole ts root places l.rings k;
    }
