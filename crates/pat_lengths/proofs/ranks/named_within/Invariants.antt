use Rattle.std.proofs.Common.{◌≡◌, ℕ, ◌<◌, All, length, true}
use Rattle.pat_tree.specs.Nested.{trees, tree_at}
use Rattle.pat_tree.specs.Parts.{tree_of}
use Rattle.pat_lengths.specs.Nodes.{named_by}
use Rattle.pat_lengths.specs.Passing.{flagged, place_of}
use Rattle.pat_lengths.specs.Rings.{IsNamed, is_in_ring, ring_at}
use Rattle.pat_lengths.proofs.ranks.named_within.Given as goal

abbrev pub invariant-loop-id : goal.invariant-loop-id
invariant-loop-id l =
    let places = l.groups.places.items in
    record {
      size : length l.back.items ≡ length places;
      only : (n : ℕ) → flagged l.back.items n ≡ true
          → IsNamed (tree_of l.tree) (trees l.tree.nodes) l.tree.root places l.rings n;
      each : (k : ℕ) → k < l.id
          → All (λ n. is_in_ring l.rings (ring_at l.rings k) (place_of places n) ≡ true → flagged l.back.items n ≡ true)
          (named_by (tree_at (trees l.tree.nodes) k));
    }
