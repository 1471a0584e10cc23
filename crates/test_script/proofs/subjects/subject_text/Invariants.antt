use Rattle.std.proofs.Common.{◌≡◌, ◌≤◌, ◌+◌, ◌-◌, length}
use Rattle.test_script.specs.Subjects.{before, written}
use Rattle.test_script.proofs.subjects.subject_text.Given as goal

abbrev pub invariant-loop-turn : goal.invariant-loop-turn
invariant-loop-turn l = record {
  within : l.at ≤ length l.text;
  so_far : before l.bytes.items (written l.utf l.text (length l.text + 1 - l.turn) l.at) ≡ written l.utf l.text
      (length l.text + 1) 0;
}
