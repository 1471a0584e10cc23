use Rattle.std.proofs.Common.{◌||◌, ◌==◌, ap, ◌∙◌}
use Rattle.char_sets.proofs.UnicodeBytes.{space_is}
use Rattle.char_sets.proofs.bytes.unicode_spaces.Goals as goal

pub returns : goal.returns
returns c k l =
    c.insert-2.ensures k
    ∙ ap (λ x. x || k == 0xA0) (c.insert.ensures k)
    ∙ ap (λ x. (x || k == 0x85) || k == 0xA0) (c.spaces-bytes.ensures k)
    ∙ space_is k l
