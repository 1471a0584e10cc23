use Rattle.tool_io.proofs.Writing.{writes-same}
use Rattle.grep_output.proofs.Said.{binary-told}
use Rattle.grep_output.proofs.summary.write_summary.Goals as goal

pub returns-then-is_told : goal.returns-then-is_told
returns-then-is_told g c =
    writes-same (binary-told c.args.plan.now c.args.name.now c.as_bytes.result.now c.args.mode c.args.is_told
    c.args.selected c.as_bytes.ensures.value c.if-is_told.true c.if-selected-eq0.false) c.write_texts.ensures
