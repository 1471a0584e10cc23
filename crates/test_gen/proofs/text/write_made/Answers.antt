use Rattle.std.proofs.Common.{◌∙◌}
use Rattle.tool_io.proofs.Writing.{writes-same}
use Rattle.test_gen.proofs.Saying.{made-text}
use Rattle.test_gen.proofs.text.write_made.Goals as goal

pub returns : goal.returns
returns g c = writes-same (made-text c.args.lines c.as_bytes.result.now
    (c.as_bytes.ensures.value ∙ c.format.ensures.text)) c.write_texts.ensures
