use Rattle.std.proofs.Common.{◌≡◌, ◌≤◌, ◌-◌, length}
use Rattle.test_script.specs.Subjects.{before, repeated}
use Rattle.test_script.proofs.subjects.repeated.Given as goal

abbrev pub invariant-loop-turn : goal.invariant-loop-turn
invariant-loop-turn l = record {
  within : l.at ≤ length l.text;
  so_far : before l.bytes.items (repeated l.utf l.text (length l.text - l.turn) l.at) ≡ repeated l.utf l.text
      (length l.text) l.from;
}
