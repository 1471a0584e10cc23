use Rattle.std.proofs.Common.{ap, ◌∙◌, rules, SFits, w32}
use Rattle.std.specs.Fmt.{signed_decimal}
use Rattle.std.proofs.lemmas.Int.{to_z-of_z}
use Rattle.tool_io.proofs.Writing.{writes-same}
use Rattle.test_run.proofs.Saying.{error-text}
use Rattle.test_run.proofs.lines.write_error.Goals as goal

pub returns : goal.returns
returns g c =
    let fits : SFits w32 c.args.number = search rules in
    writes-same
    (error-text c.args.number c.args.text.now c.args.at c.as_bytes.result.now c.place_text.result.now
    (c.as_bytes.ensures.value ∙ c.format.ensures.text ∙ ap signed_decimal (to_z-of_z w32 c.args.number fits))
    c.place_text.ensures)
    c.write_texts.ensures
