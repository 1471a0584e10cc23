use Rattle.std.proofs.Common.{◌≡◌, true, subst}
use Rattle.pat_shape.specs.IsShape.{may_take}
use Rattle.pat_shape.proofs.Ranges.{past_all}
use Rattle.pat_shape.proofs.pieces.past_bytes.Goals as goal

pub returns-in-Char : goal.returns-in-Char
returns-in-Char c has k high scalar e =
    c.past_char.ensures has k high scalar (subst (λ i. may_take true has i k ≡ true) c.in-Char.is e)

pub returns-in_default : goal.returns-in_default
returns-in_default c has k high scalar e = past_all k high scalar
