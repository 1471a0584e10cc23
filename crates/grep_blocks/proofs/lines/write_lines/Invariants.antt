use Rattle.std.proofs.Common.{◌≤◌, ◌-◌, take, flat_map}
use Rattle.tool_io.proofs.Writing.{IsLeft}
use Rattle.grep_blocks.specs.Steps.{IsStart, line_by, rows_at}
use Rattle.grep_blocks.proofs.lines.write_lines.Given as goal

abbrev pub invariant-line : goal.invariant-line
invariant-line g l = record {
  start : IsStart l.job l.at;
  within : l.counter ≤ l.count;
  left : IsLeft (flat_map (line_by l.job l.is_bare) (take l.count (rows_at l.job l.fn.from)))
      (flat_map (line_by l.job l.is_bare) (take (l.count - l.counter) (rows_at l.job l.at)))
      (g.O.Sink.tells l.initial.out) (g.O.Sink.tells l.out);
}
