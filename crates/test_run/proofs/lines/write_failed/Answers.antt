use Rattle.std.proofs.Common.{◌∙◌, rules, SFits, w32}
use Rattle.std.proofs.lemmas.Int.{to_z-of_z}
use Rattle.tool_io.proofs.Writing.{writes-same}
use Rattle.test_run.proofs.Saying.{error-same}
use Rattle.test_run.proofs.lines.write_failed.Goals as goal

pub returns : goal.returns
returns g c =
    let fits : SFits w32 c.number.result = search rules in
    writes-same (error-same (to_z-of_z w32 c.number.result fits ∙ c.number.ensures) c.text.ensures
    c.fault_place.ensures) c.write_error.ensures
