use Rattle.std.proofs.Common.{drop, None}
use Rattle.tool_io.proofs.Writing.{IsLeft}
use Rattle.test_lines.specs.Callouts.{called_text}
use Rattle.test_lines.proofs.callouts.write_called.Given as goal

abbrev pub invariant-loop-block : goal.invariant-loop-block
invariant-loop-block g l =
    IsLeft (called_text l.calling.utf l.code.tree.verb_names l.calling.pattern.now l.calling.subject.now None l.blocks)
    (called_text l.calling.utf l.code.tree.verb_names l.calling.pattern.now l.calling.subject.now l.before
    (drop l.block-index l.blocks))
    (g.O.Sink.tells l.initial.out) (g.O.Sink.tells l.out)
