use Rattle.std.proofs.Common.{◌∙◌, ap}
use Rattle.match_items.specs.Items.{after_item, item_reaches}
use Rattle.match_items.specs.Views.{text_scene}
use Rattle.frame_board.specs.Told.{place_in}
use Rattle.frame_board.proofs.GroundLemmas.{place_told}
use Rattle.frame_board.proofs.counted.taken.Goals as goal

pub returns : goal.returns
returns c =
    let g = text_scene c.args.view.now c.args.classes.now in
    c.place_of.ensures ∙ ap place_in c.item_step.ensures
    ∙ place_told (after_item g c.args.item.now c.args.at) (item_reaches g c.args.item.now c.args.at)
