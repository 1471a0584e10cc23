use Rattle.std.proofs.Common.{◌||◌, ◌==◌, ap, ◌∙◌}
use Rattle.std.specs.Int.{is_in_range}
use Rattle.char_sets.proofs.ByteLemmas.{word_is}
use Rattle.char_sets.proofs.bytes.word_bytes.Goals as goal

pub returns : goal.returns
returns c k =
    c.add_range-2.ensures k
    ∙ ap (λ x. x || is_in_range 97 122 k) (c.insert.ensures k)
    ∙ ap (λ x. (x || k == 95) || is_in_range 97 122 k) (c.add_range.ensures k)
    ∙ ap (λ x. ((x || is_in_range 65 90 k) || k == 95) || is_in_range 97 122 k) (c.digits-bytes.ensures k)
    ∙ word_is k
