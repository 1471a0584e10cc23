use Rattle.std.proofs.Common.{◌≡◌, ◌≤◌, drop}
use Rattle.grep_blocks.specs.Steps.{IsStart, rows_at}
use Rattle.grep_blocks.proofs.lines.skip_lines.Given as goal

abbrev pub invariant-line : goal.invariant-line
invariant-line l = record {
  start : IsStart l.job l.at;
  within : l.counter ≤ l.count;
  lines : rows_at l.job l.at ≡ drop l.counter (rows_at l.job l.fn.from);
}
