use Rattle.std.proofs.Common.{◌≡◌, ◌+◌, ◌*◌, ◌≤◌, drop, length}
use Rattle.test_lines.specs.Shown.{shown_bytes}
use Rattle.test_lines.proofs.columns.columns_of_bytes.Given as goal

abbrev pub invariant-loop-byte : goal.invariant-loop-byte
invariant-loop-byte l = record {
  count : l.n + length (shown_bytes (drop l.byte-index l.text)) ≡ length (shown_bytes l.text);
  most : l.n ≤ 4 * l.byte-index;
  there : l.byte-index ≤ length l.text;
}
