use Rattle.std.proofs.Common.{ap, sym, ◌∙◌}
use Rattle.char_sets.specs.Sets.{property_has}
use Rattle.char_sets.proofs.bytes.bytes_with_number.Goals as goal

pub returns-in-Some : goal.returns-in-Some
returns-in-Some c k l =
    c.bytes_with.ensures k l ∙ ap (λ o. property_has o k) (sym c.in-Some.is ∙ c.by_number.ensures.value)

pub returns-in-None : goal.returns-in-None
returns-in-None c k l =
    c.empty.ensures k ∙ ap (λ o. property_has o k) (sym c.in-None.is ∙ c.by_number.ensures.value)
