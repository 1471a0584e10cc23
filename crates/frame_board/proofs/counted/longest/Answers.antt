use Rattle.std.proofs.Common.{◌∙◌, ap, length}
use Rattle.match_items.specs.Views.{text_scene, end_of}
use Rattle.frame_board.proofs.GroundLemmas.{run_as, reaches_as}
use Rattle.frame_board.proofs.counted.longest.Goals as goal

pub returns-clause-count : goal.returns-clause-count
returns-clause-count c =
    c.item_run.ensures.count
    ∙ ap length (run_as (text_scene c.args.view.now c.args.classes.now) c.args.item.now c.args.at
    c.requires.subject.short c.args.most c.unwrap_or-most.result c.unwrap_or-most.ensures)

pub returns-clause-to : goal.returns-clause-to
returns-clause-to c =
    c.item_run.ensures.to ∙ ap (end_of c.args.at)
    (run_as (text_scene c.args.view.now c.args.classes.now) c.args.item.now c.args.at c.requires.subject.short
    c.args.most c.unwrap_or-most.result c.unwrap_or-most.ensures)

pub returns-clause-at_end : goal.returns-clause-at_end
returns-clause-at_end c =
    c.item_run.ensures.at_end ∙ reaches_as (text_scene c.args.view.now c.args.classes.now) c.args.item.now c.args.at
    c.requires.subject.short c.args.most c.unwrap_or-most.result c.unwrap_or-most.ensures
