use Rattle.std.proofs.Common.{◌∙◌}
use Rattle.tool_io.proofs.Writing.{writes-same}
use Rattle.test_run.proofs.Saying.{lookbehind-text}
use Rattle.test_run.proofs.lines.write_lookbehind.Goals as goal

pub returns : goal.returns
returns g c =
    writes-same (lookbehind-text c.args.most c.as_bytes.result.now c.if-most-eq0.false
    (c.as_bytes.ensures.value ∙ c.format.ensures.text)) c.write_texts.ensures
