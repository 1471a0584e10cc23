use Rattle.std.proofs.Common.{◌∙◌}
use Rattle.tool_io.proofs.Writing.{writes-same}
use Rattle.grep_output.proofs.Said.{too-long-text}
use Rattle.grep_output.proofs.messages.write_too_long.Goals as goal

pub returns : goal.returns
returns g c =
    writes-same (too-long-text c.args.name.now c.as_bytes.result.now c.args.line c.as_bytes-2.result.now
    c.as_bytes.ensures.value (c.as_bytes-2.ensures.value ∙ c.format.ensures.text)) c.write_texts.ensures
