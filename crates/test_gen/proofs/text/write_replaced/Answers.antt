use Rattle.std.proofs.Common.{◌∙◌, ◌++◌, codes, decimal, ap}
use Rattle.tool_io.specs.Texts.{line}
use Rattle.tool_io.proofs.Writing.{writes-same}
use Rattle.test_gen.specs.Texts as texts
use Rattle.test_gen.proofs.Saying.{replaced-text, lacks}
use Rattle.test_gen.proofs.text.write_replaced.Goals as goal

pub returns-in_default : goal.returns-in_default
returns-in_default g c = lacks (texts.replaced_text c.args.text.now c.args.replacement.now c.args.lines)
    (g.O.Sink.tells c.args.out.now)

pub returns : goal.returns
returns g c =
    writes-same
    (replaced-text c.in-Ok.count c.as_bytes.result.now (c.as_bytes.ensures.value ∙ c.format.ensures.text)
    ∙ ap (λ n. line (codes "substitute: " ++ decimal n)) c.in-Ok.ensures)
    c.write_texts.ensures
