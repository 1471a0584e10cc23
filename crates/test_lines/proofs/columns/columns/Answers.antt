use Rattle.std.proofs.Common.{◌∙◌, sym, arith}
use Rattle.std.proofs.lemmas.Str.{IsUtf8-from_is_utf8}
use Rattle.test_lines.proofs.columns.columns.Goals as goal

pub columns_of_chars-requires-clause-valid : goal.columns_of_chars-requires-clause-valid
columns_of_chars-requires-clause-valid c = IsUtf8-from_is_utf8 c.args.text.now
    (sym c.is_text.ensures ∙ c.if-is_text.true)

pub returns-then-is_text-clause-most : goal.returns-then-is_text-clause-most
returns-then-is_text-clause-most c = omega (arith, c.columns_of_chars.ensures.most, c.requires)

pub returns-else-utf-clause-most : goal.returns-else-utf-clause-most
returns-else-utf-clause-most c = omega (arith, c.columns_of_bytes.ensures.most, c.requires)
