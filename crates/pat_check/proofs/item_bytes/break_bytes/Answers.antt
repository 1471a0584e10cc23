use Rattle.std.proofs.Common.{◌∙◌, ◌||◌, ◌==◌, ap}
use Rattle.pat_check.proofs.ByteLemmas.{break_bytes}
use Rattle.pat_check.proofs.item_bytes.break_bytes.Goals as goal

pub returns-then-utf : goal.returns-then-utf
returns-then-utf c b l =
    rw (c.in-Unicode.is, c.if-utf.true)
    (c.insert-then-utf-2.ensures b
    ∙ ap (λ x. x || b == 226) (c.insert-then-utf.ensures b)
    ∙ ap (λ x. (x || b == 194) || b == 226) (c.insert-in-Unicode-2.ensures b)
    ∙ ap (λ x. ((x || b == 12) || b == 194) || b == 226) (c.insert-in-Unicode.ensures b)
    ∙ ap (λ x. (((x || b == 11) || b == 12) || b == 194) || b == 226) (c.insert-2.ensures b)
    ∙ ap (λ x. ((((x || b == 10) || b == 11) || b == 12) || b == 194) || b == 226) (c.insert.ensures b)
    ∙ ap (λ x. (((((x || b == 13) || b == 10) || b == 11) || b == 12) || b == 194) || b == 226)
    (c.empty-bytes.ensures b)
    ∙ break_bytes b)
