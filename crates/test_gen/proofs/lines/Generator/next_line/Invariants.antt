use Rattle.std.proofs.Common.{◌≡◌, length}
use Rattle.test_gen.specs.Generated.{behind, letters}
use Rattle.test_gen.proofs.lines.Generator.next_line.Given as goal

abbrev pub invariant-loop-letter : goal.invariant-loop-letter
invariant-loop-letter l = record {
  line : l.line.items ≡ letters l.initial.self.x l._letter;
  len : length l.line.items ≡ l._letter;
  x : l.self.x ≡ behind l.initial.self.x l._letter;
}
