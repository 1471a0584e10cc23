use Rattle.std.proofs.Common.{◌∙◌, ◌||◌, ap}
use Rattle.std.specs.Int.{is_in_range}
use Rattle.pat_check.proofs.ByteLemmas.{no_lf}
use Rattle.pat_check.proofs.item_bytes.all_but_lf.Goals as goal

pub returns : goal.returns
returns c b l =
    c.add_range-2.ensures b
    ∙ ap (λ x. x || is_in_range 11 255 b) (c.add_range.ensures b)
    ∙ ap (λ x. (x || is_in_range 0 9 b) || is_in_range 11 255 b) (c.empty-bytes.ensures b)
    ∙ no_lf b l
