use Rattle.std.proofs.Common.{ap, ◌∙◌, rules, SFits, w32}
use Rattle.std.specs.Fmt.{signed_decimal}
use Rattle.std.proofs.lemmas.Int.{to_z-of_z}
use Rattle.pcre2_errors.specs.FaultTexts.{fault_text}
use Rattle.tool_io.proofs.Writing.{writes-same}
use Rattle.grep_main.proofs.Saying.{refused-said}
use Rattle.grep_main.proofs.messages.write_refused.Goals as goal

pub returns : goal.returns
returns g c =
    let fits : SFits w32 c.args.number = search rules in
    let same = to_z-of_z w32 c.args.number fits in
    writes-same
    (refused-said c.args.kind.now c.args.index (record { number = c.args.number; at = c.args.at })
    c.as_bytes.result.now c.as_bytes-2.result.now c.as_bytes-3.result.now c.fault_text.result.now
    (c.as_bytes.ensures.value ∙ c.format.ensures.text) (c.as_bytes-2.ensures.value ∙ c.format-2.ensures.text
    ∙ ap signed_decimal same) (c.as_bytes-3.ensures.value ∙ c.format-3.ensures.text)
    (c.fault_text.ensures ∙ ap fault_text same))
    c.write_texts.ensures
