use Rattle.std.proofs.Common.{◌∙◌, ◌++◌, codes, decimal}
use Rattle.tool_io.specs.Texts.{line}
use Rattle.tool_io.proofs.Writing.{writes-same}
use Rattle.test_gen.specs.Texts.{pattern_text}
use Rattle.test_gen.proofs.Saying.{finds-text, lacks}
use Rattle.test_gen.proofs.text.write_pattern.Goals as goal

pub returns-in_default : goal.returns-in_default
returns-in_default g c = lacks (pattern_text c.args.number c.args.text.now c.args.lines) (g.O.Sink.tells c.args.out.now)

pub returns : goal.returns
returns g c =
    let found = c.in-Ok.finds in
    let number = decimal c.args.number in
    writes-same
    (finds-text c.args.number found.lines found.characters c.as_bytes.result.now c.as_bytes-2.result.now
    c.as_bytes-3.result.now
    (c.as_bytes.ensures.value ∙ c.format.ensures.text) (c.as_bytes-2.ensures.value ∙ c.format-2.ensures.text)
    (c.as_bytes-3.ensures.value ∙ c.format-3.ensures.text)
    ∙ (λ i. line (codes "pattern " ++ number ++ codes ": " ++ decimal (c.in-Ok.ensures.lines i) ++ codes " lines, "
    ++ decimal (c.in-Ok.ensures.characters i) ++ codes " characters")))
    c.write_texts.ensures
