use Rattle.std.proofs.Common.{◌∙◌}
use Rattle.tool_io.proofs.Writing.{writes-same}
use Rattle.test_lines.proofs.Showing.{number-text}
use Rattle.test_lines.proofs.shown.write_count.Goals as goal

pub returns : goal.returns
returns g c =
    writes-same (number-text c.args.n c.text_if.result.now c.as_bytes.result.now c.text_if.ensures
    (c.as_bytes.ensures.value ∙ c.format.ensures.text)) c.write_texts.ensures
