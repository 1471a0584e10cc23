use Rattle.std.proofs.Common.{◌≡◌, ◌≤◌, length, drop}
use Rattle.pat_check.specs.Size.{counted_sum, size_at}
use Rattle.pat_check.proofs.size.sum_of.Given as goal

abbrev pub invariant-loop-i : goal.invariant-loop-i
invariant-loop-i l = record {
  within : l.i ≤ length l.ids;
  is : l.all ≡ counted_sum (size_at l.sizes) (drop l.i l.ids);
}

abbrev pub decreases-loop-i : goal.decreases-loop-i
decreases-loop-i l = l.i
