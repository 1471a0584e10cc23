use Rattle.std.proofs.Common.{ap, ◌∙◌, ◌-◌, decimal}
use Rattle.line_feed.specs.Lines.{row_of}
use Rattle.grep_match.specs.declared.found.Place.{Place}
use Rattle.tool_io.proofs.Writing.{writes-same}
use Rattle.grep_output.proofs.Parted.{in-line-text}
use Rattle.grep_output.proofs.parts.write_in_line.Goals as goal

pub returns : goal.returns
returns g c o e =
    writes-same
    (in-line-text c.args.plan.now c.args.name.now (row_of c.args.line.now) o c.is_named-is_named.result
    c.as_bytes.result.now c.text_if.result.now c.text_if-2.result.now c.as_bytes-2.result.now
    c.as_bytes-3.result.now c.as_bytes-4.result.now
    c.is_named-is_named.ensures c.as_bytes.ensures.value c.text_if.ensures c.text_if-2.ensures
    (c.as_bytes-2.ensures.value ∙ c.format.ensures.text)
    (c.as_bytes-3.ensures.value ∙ c.format-2.ensures.text ∙ ap (λ (p : Place). decimal p.keep) e)
    (c.as_bytes-4.ensures.value ∙ c.format-3.ensures.text ∙ ap decimal c.length_of.ensures
    ∙ ap (λ (p : Place). decimal (p.to - p.keep)) e))
    c.write_texts.ensures
