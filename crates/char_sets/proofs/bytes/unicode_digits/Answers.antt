use Rattle.std.proofs.Common.{◌∙◌}
use Rattle.char_sets.proofs.UnicodeBytes.{digit_is}
use Rattle.char_sets.proofs.bytes.unicode_digits.Goals as goal

pub returns : goal.returns
returns c k l = c.digits.ensures k ∙ digit_is k l
