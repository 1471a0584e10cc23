use Rattle.std.proofs.Common.{◌∙◌, sym, ap}
use Rattle.pat_tree.specs.declared.options.Options.{Options}
use Rattle.match_items.specs.Scene.{Scene}
use Rattle.match_items.specs.Views.{bare_text}
use Rattle.frame_board.specs.Standing.{back_same}
use Rattle.frame_board.specs.BytesBack.{told_back}
use Rattle.frame_board.proofs.board.BoardSearchable.step_back.Goals as goal

pub returns-then-options : goal.returns-then-options
returns-then-options g c =
    c.wide.ensures
    ∙ c.text_back.ensures.value
    ∙ back_same (bare_text c.view.result) _ (ap (λ (s : Scene). s.options) c.view.ensures.scene)
    (ap (λ (s : Scene). s.subject) c.view.ensures.scene) c.args.count c.args.at

pub returns-else-options : goal.returns-else-options
returns-else-options g c =
    told_back _ (ap (λ (o : Options). o.utf) (sym c.options.ensures) ∙ c.if-options.false) c.args.count c.args.at
    c.from.result c.from.ensures c.checked_sub.result c.checked_sub.ensures
