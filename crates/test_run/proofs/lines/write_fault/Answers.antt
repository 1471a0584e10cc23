use Rattle.std.proofs.Common.{ap, ◌∙◌, rules, SFits, w32}
use Rattle.std.specs.Fmt.{signed_decimal}
use Rattle.std.proofs.lemmas.Int.{to_z-of_z}
use Rattle.pcre2_errors.specs.FaultTexts.{fault_text}
use Rattle.tool_io.proofs.Writing.{writes-same}
use Rattle.test_run.proofs.Saying.{fault-text}
use Rattle.test_run.proofs.lines.write_fault.Goals as goal

pub returns : goal.returns
returns g c =
    let fits : SFits w32 c.args.number = search rules in
    writes-same
    (fault-text c.args.number c.args.at c.as_bytes.result.now c.as_bytes-2.result.now c.fault_text.result.now
    (c.as_bytes.ensures.value ∙ c.format.ensures.text ∙ ap signed_decimal (to_z-of_z w32 c.args.number fits))
    (c.as_bytes-2.ensures.value ∙ c.format-2.ensures.text) (c.fault_text.ensures
    ∙ ap fault_text (to_z-of_z w32 c.args.number fits)))
    c.write_texts.ensures
