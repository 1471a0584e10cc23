use Rattle.std.proofs.Common.{◌≡◌, ◌++◌}
use Rattle.std.specs.List.{repeat}
use Rattle.test_script.proofs.subjects.push_copies.Given as goal

abbrev pub invariant-loop-turn : goal.invariant-loop-turn
invariant-loop-turn l = l.bytes.items ≡ l.initial.bytes.items ++ repeat l.turn l.copy
