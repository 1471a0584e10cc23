use Rattle.std.proofs.Common.{sym, ◌∙◌, ap, take, ◌∷◌}
use Rattle.std.specs.List.{slice_split}
use Rattle.test_modifiers.specs.Lists.{is_comma}
use Rattle.test_modifiers.proofs.Cuts.{split_at_place, split_nowhere}
use Rattle.test_modifiers.proofs.lists.first_item.Goals as goal

pub returns-in-Some-clause-more : goal.returns-in-Some-clause-more
returns-in-Some-clause-more c =
    split_at_place is_comma c.args.list.now c.in-Some.i (sym c.in-Some.ensures.value)
    ∙ ap (λ rest. take c.in-Some.i c.args.list.now ∷ slice_split is_comma rest) (sym c.after.ensures)

pub returns-in-None-clause-last : goal.returns-in-None-clause-last
returns-in-None-clause-last c = λ _. split_nowhere is_comma c.args.list.now (sym c.in-None.ensures.value)
