use Rattle.std.proofs.Common.{◌≡◌, ℕ, ◌≤◌, length, All}
use Rattle.std.specs.List.{Contains}
use Rattle.frame_memo.specs.Slots.{kept, IsAtHome}
use Rattle.frame_memo.proofs.slots.move_home.Given as goal

abbrev pub invariant-slots : goal.invariant-slots
invariant-slots l = record {
  same_length : length l.slots ≡ length l.initial.slots;
  no_other : All (Contains (kept l.initial.slots)) (kept l.slots);
  at_home : (k : ℕ) → l.i ≤ k → IsAtHome l.slots k;
}
