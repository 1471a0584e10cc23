use Rattle.std.proofs.Common.{ap, ◌∙◌, rules, SFits, w32}
use Rattle.std.specs.Fmt.{signed_decimal}
use Rattle.std.proofs.lemmas.Int.{to_z-of_z}
use Rattle.tool_io.proofs.Writing.{writes-same}
use Rattle.grep_output.proofs.Said.{error-text}
use Rattle.grep_output.proofs.messages.write_error.Goals as goal

pub returns : goal.returns
returns g c t at is =
    let fits : SFits w32 c.args.error = search rules in
    writes-same
    (error-text c.args.name.now c.as_bytes.result.now t c.args.line c.args.error c.as_bytes-2.result.now
    c.as_bytes-3.result.now c.as_bytes.ensures.value (c.as_bytes-2.ensures.value ∙ c.format.ensures.text)
    (c.as_bytes-3.ensures.value ∙ c.format-2.ensures.text ∙ ap signed_decimal (to_z-of_z w32 c.args.error fits)) at is)
    c.write_texts.ensures
