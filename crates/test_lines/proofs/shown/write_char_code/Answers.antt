use Rattle.std.proofs.Common.{◌∙◌, ◌∷◌, [], ap, nat_lt}
use Rattle.tool_io.specs.Texts.{text_if}
use Rattle.tool_io.proofs.Writing.{writes-same}
use Rattle.test_lines.proofs.Showing.{code-text}
use Rattle.test_lines.proofs.shown.write_char_code.Goals as goal

pub returns : goal.returns
returns g c =
    let code = c.args.code in
    writes-same
    (code-text code c.text_if.result.now c.text_if-2.result.now c.text_if-3.result.now c.text_if-4.result.now
    c.last_digit-5.result c.last_digit-6.result
    (c.text_if.ensures ∙ ap (λ d. text_if (nat_lt 1048575 code) (d ∷ [])) c.last_digit.ensures)
    (c.text_if-2.ensures ∙ ap (λ d. text_if (nat_lt 65535 code) (d ∷ [])) c.last_digit-2.ensures)
    (c.text_if-3.ensures ∙ ap (λ d. text_if (nat_lt 4095 code) (d ∷ [])) c.last_digit-3.ensures)
    (c.text_if-4.ensures ∙ ap (λ d. text_if (nat_lt 255 code) (d ∷ [])) c.last_digit-4.ensures)
    c.last_digit-5.ensures c.last_digit-6.ensures)
    c.write_texts.ensures
