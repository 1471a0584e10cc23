use Rattle.std.proofs.Common.{drop}
use Rattle.tool_io.proofs.Writing.{IsLeft}
use Rattle.test_lines.specs.Shown.{shown_bytes}
use Rattle.test_lines.proofs.shown.write_bytes.Given as goal

abbrev pub invariant-loop-byte : goal.invariant-loop-byte
invariant-loop-byte g l = IsLeft (shown_bytes l.text) (shown_bytes (drop l.byte-index l.text))
    (g.O.Sink.tells l.initial.out) (g.O.Sink.tells l.out)
