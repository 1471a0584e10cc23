use Rattle.std.proofs.Common.{◌≡◌, ◌≤◌, ◌-◌, drop, length}
use Rattle.ordered_search.specs.Parts.{contains}
use Rattle.frame_looks.proofs.calls.is_in.Given as goal

abbrev pub invariant-numbers : goal.invariant-numbers
invariant-numbers l = record {
  rest : contains (drop l.i l.numbers) l.number ≡ contains l.numbers l.number;
  within : l.i ≤ length l.numbers;
}

abbrev pub decreases-numbers : goal.decreases-numbers
decreases-numbers l = length l.numbers - l.i
