use Rattle.std.proofs.Common.{drop}
use Rattle.tool_io.specs.Texts.{concat_texts}
use Rattle.tool_io.proofs.Writing.{IsLeft}
use Rattle.tool_io.proofs.write.write_texts.Given as goal

abbrev pub invariant-loop-text : goal.invariant-loop-text
invariant-loop-text g l = IsLeft (concat_texts l.texts) (concat_texts (drop l.text-index l.texts))
    (g.O.Sink.tells l.initial.out) (g.O.Sink.tells l.out)
