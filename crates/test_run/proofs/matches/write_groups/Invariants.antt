use Rattle.std.proofs.Common.{◌+◌, ◌-◌, flat_map}
use Rattle.std.specs.List.{range_with_len}
use Rattle.tool_io.proofs.Writing.{IsLeft}
use Rattle.pcre2_api.specs.Captured.{top_of}
use Rattle.test_lines.specs.Shown.{group_line, groups_text}
use Rattle.test_run.proofs.matches.write_groups.Given as goal

abbrev pub invariant-loop-n : goal.invariant-loop-n
invariant-loop-n g l =
    IsLeft (groups_text l.found.code.tree.options.utf l.found.subject l.found.outcome)
    (flat_map (group_line l.found.code.tree.options.utf l.found.subject l.found.outcome)
    (range_with_len l.n (top_of l.found.outcome + 1 - l.n)))
    (g.O.Sink.tells l.initial.out) (g.O.Sink.tells l.out)
