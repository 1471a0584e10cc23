use Rattle.std.proofs.Common.{sym, ◌∙◌}
use Rattle.match_items.specs.Items.{after_item, item_reaches}
use Rattle.match_items.specs.Views.{text_scene}
use Rattle.match_items.proofs.TextGround.{places_stand}
use Rattle.match_starts.proofs.TextSteps.{took}
use Rattle.match_starts.proofs.prefix.taken.Goals as goal

pub returns-in-Took-clause-place : goal.returns-in-Took-clause-place
returns-in-Took-clause-place c =
    let g = text_scene c.args.view.now c.args.classes.now in
    let e = took (after_item g c.args.item.now c.args.at) (item_reaches g c.args.item.now c.args.at) c.in-Took.to
    (sym c.item_step.ensures ∙ c.in-Took.is) in
    ((places_stand g c.requires.subject).forward c.args.item.now c.args.at c.in-Took.to c.requires.place e).1
