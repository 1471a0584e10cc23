use Rattle.std.proofs.Common.{◌∙◌, sym, ap, [], ◌∷◌, if◌then◌else◌}
use Rattle.tool_io.proofs.Writing.{writes-same}
use Rattle.test_lines.specs.Shown.{code_of}
use Rattle.test_lines.proofs.shown.write_byte.Goals as goal

pub returns-then-is_plain : goal.returns-then-is_plain
returns-then-is_plain g c =
    writes-same (sym (ap (λ t. if t then c.args.byte ∷ [] else code_of c.args.byte)
    (sym c.is_plain.ensures.plain ∙ c.if-is_plain.true))) c.write_texts.ensures

pub returns-else-is_plain : goal.returns-else-is_plain
returns-else-is_plain g c =
    writes-same (sym (ap (λ t. if t then c.args.byte ∷ [] else code_of c.args.byte)
    (sym c.is_plain.ensures.plain ∙ c.if-is_plain.false))) c.write_code.ensures
