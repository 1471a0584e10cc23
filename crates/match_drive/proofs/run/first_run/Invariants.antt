use Rattle.std.proofs.Common.{◌≡◌, ◌≤◌}
use Rattle.pat_tree.specs.Nested.{tree_at, trees}
use Rattle.pat_tree.specs.Parts.{tree_of}
use Rattle.ordered_search.specs.LaterPlaces as later
use Rattle.match_drive.proofs.run.first_run.Given as goal

-- the part begins with the run with which the pattern begins
abbrev pub invariant-parts : goal.invariant-parts
invariant-parts l = record {
  same : later.first_run (tree_at (trees l.tree.nodes) l.id) ≡ later.first_run (tree_of l.tree);
  within : l.id ≤ l.tree.root;
}

abbrev pub decreases-parts : goal.decreases-parts
decreases-parts l = l.id
