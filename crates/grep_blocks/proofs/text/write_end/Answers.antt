use Rattle.std.proofs.Common.{rules, ◌≡◌, Err}
use Rattle.grep_core.proofs.FileTexts.{both-refused}
use Rattle.grep_blocks.proofs.text.write_end.Goals as goal

pub returns-in_err-write_ended : goal.returns-in_err-write_ended
returns-in_err-write_ended g c =
    let fault = c.in_err-write_ended.field-0.0 in
    let same : c.from_residual-in_err-write_ended.result ≡ Err fault = search rules in
    both-refused _ _ c.in_ok-write_summary.field-0 fault c.from_residual-in_err-write_ended.result same
    c.in_ok-write_summary.ensures c.in_err-write_ended.ensures
