use Rattle.std.proofs.Common.{◌≡◌, ◌≤◌, ◌-◌, drop, length}
use Rattle.frame_state.specs.Machine.{first_set}
use Rattle.frame_state.proofs.framing.first_set.Given as goal

abbrev pub invariant-groups : goal.invariant-groups
invariant-groups l = record {
  rest : first_set l.registers (drop l.i l.groups) ≡ first_set l.registers l.groups;
  within : l.i ≤ length l.groups;
}

abbrev pub decreases-groups : goal.decreases-groups
decreases-groups l = length l.groups - l.i
