use Rattle.grep_core.proofs.Steps.{gap-text}
use Rattle.tool_io.proofs.Writing.{writes-same}
use Rattle.grep_core.proofs.lines.write_separator.Goals as goal

pub returns : goal.returns
returns g c =
    writes-same (gap-text c.is_parted-is_parted.result _ c.text_if.result.now c.text_if.ensures
    c.is_parted-is_parted.ensures) c.write_texts.ensures
