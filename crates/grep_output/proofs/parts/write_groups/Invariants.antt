use Rattle.std.proofs.Common.{drop}
use Rattle.grep_output.specs.Texts.{joined}
use Rattle.tool_io.proofs.Writing.{IsLeft}
use Rattle.grep_output.proofs.Parted.{set_texts, joined_from}
use Rattle.grep_output.proofs.parts.write_groups.Given as goal

abbrev pub invariant-loop-group : goal.invariant-loop-group
invariant-loop-group g l =
    IsLeft (joined l.separator (set_texts l.bytes l.groups))
    (joined_from l.is_later l.separator (set_texts l.bytes (drop l.group-index l.groups)))
    (g.O.Sink.tells l.initial.out) (g.O.Sink.tells l.out)
