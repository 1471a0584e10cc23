use Rattle.std.proofs.Common.{◌≡◌, ◌≤◌, length, drop}
use Rattle.pat_tree.specs.Parts.{TreeParts}
use Rattle.pat_lengths.specs.Backs.{AreBranches, fault_among}
use Rattle.pat_lengths.proofs.backs.fault_among.Given as goal

abbrev pub invariant-loop-i : goal.invariant-loop-i
invariant-loop-i l = record {
  within : l.i ≤ length l.branches;
  is : (tree : TreeParts) → AreBranches tree l.spans → l.first ≡ fault_among tree l.at (drop l.i l.branches);
}

abbrev pub decreases-loop-i : goal.decreases-loop-i
decreases-loop-i l = l.i
