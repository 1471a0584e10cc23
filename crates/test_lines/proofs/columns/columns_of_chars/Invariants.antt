use Rattle.std.proofs.Common.{◌≡◌, ◌+◌, ◌-◌, ◌*◌, ◌≤◌, true, drop, length}
use Rattle.uni_text.specs.Characters.{IsPlace}
use Rattle.test_lines.specs.Shown.{shown_chars}
use Rattle.test_lines.proofs.columns.columns_of_chars.Given as goal

abbrev pub invariant-chars : goal.invariant-chars
invariant-chars l = record {
  count : l.n + length (shown_chars (drop l.at l.text)) ≡ length (shown_chars l.text);
  most : l.n ≤ 10 * l.at;
  place : IsPlace true l.text l.at;
}

abbrev pub decreases-chars : goal.decreases-chars
decreases-chars l = length l.text - l.at
