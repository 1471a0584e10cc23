use Rattle.std.proofs.Common.{◌∙◌, sym, ap, if◌then◌else◌}
use Rattle.std.proofs.lemmas.Str.{IsUtf8-from_is_utf8}
use Rattle.tool_io.proofs.Writing.{writes-same}
use Rattle.test_lines.specs.Shown.{shown_bytes, shown_chars}
use Rattle.test_lines.proofs.shown.write_in_utf.Goals as goal

pub write_chars-requires : goal.write_chars-requires
write_chars-requires g c = IsUtf8-from_is_utf8 c.args.text.now (sym c.is_text.ensures ∙ c.if-is_text.true)

pub returns-then-is_text : goal.returns-then-is_text
returns-then-is_text g c =
    let text = c.args.text.now in
    writes-same (sym (ap (λ t. if t then shown_chars text else shown_bytes text)
    (sym c.is_text.ensures ∙ c.if-is_text.true))) c.write_chars.ensures

pub returns-else-is_text : goal.returns-else-is_text
returns-else-is_text g c =
    let text = c.args.text.now in
    writes-same (sym (ap (λ t. if t then shown_chars text else shown_bytes text)
    (sym c.is_text.ensures ∙ c.if-is_text.false))) c.write_bytes.ensures
