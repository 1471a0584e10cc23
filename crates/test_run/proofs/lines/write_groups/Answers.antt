use Rattle.std.proofs.Common.{◌∙◌}
use Rattle.tool_io.proofs.Writing.{writes-same}
use Rattle.test_run.proofs.Saying.{groups-text}
use Rattle.test_run.proofs.lines.write_groups.Goals as goal

pub returns : goal.returns
returns g c = writes-same (groups-text c.args.groups c.as_bytes.result.now
    (c.as_bytes.ensures.value ∙ c.format.ensures.text)) c.write_texts.ensures
