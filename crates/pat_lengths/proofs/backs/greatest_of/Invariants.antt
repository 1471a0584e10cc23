use Rattle.std.proofs.Common.{◌≡◌, ◌≤◌, length, drop}
use Rattle.pat_tree.specs.Parts.{TreeParts}
use Rattle.pat_lengths.specs.Backs.{AreBranches, greatest_of}
use Rattle.pat_lengths.proofs.backs.greatest_of.Given as goal

abbrev pub invariant-loop-i : goal.invariant-loop-i
invariant-loop-i l = record {
  within : l.i ≤ length l.branches;
  is : (tree : TreeParts) → AreBranches tree l.spans → l.greatest ≡ greatest_of tree (drop l.i l.branches);
}

abbrev pub decreases-loop-i : goal.decreases-loop-i
decreases-loop-i l = l.i
