use Rattle.std.proofs.Common.{◌||◌, ◌==◌, ap, ◌∙◌}
use Rattle.std.specs.Int.{is_in_range}
use Rattle.char_sets.proofs.bytes.spaces.Goals as goal

pub returns : goal.returns
returns c k =
    c.insert.ensures k
    ∙ ap (λ x. x || k == 32) (c.add_range.ensures k)
    ∙ ap (λ x. (x || is_in_range 9 13 k) || k == 32) (c.empty-bytes.ensures k)
