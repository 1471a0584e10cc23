use Rattle.std.proofs.Common.{◌-◌, true, drop, length}
use Rattle.tool_io.proofs.Writing.{IsLeft}
use Rattle.uni_text.specs.Characters.{IsPlace}
use Rattle.test_lines.specs.Shown.{shown_chars}
use Rattle.test_lines.proofs.shown.write_chars.Given as goal

abbrev pub invariant-chars : goal.invariant-chars
invariant-chars g l = record {
  left : IsLeft (shown_chars l.text) (shown_chars (drop l.at l.text)) (g.O.Sink.tells l.fn.out) (g.O.Sink.tells l.out);
  place : IsPlace true l.text l.at;
}

abbrev pub decreases-chars : goal.decreases-chars
decreases-chars g l = length l.text - l.at
