use Rattle.std.proofs.Common.{◌∙◌, sym, ap}
use Rattle.match_items.specs.Scene.{Scene}
use Rattle.match_items.specs.Items as items
use Rattle.frame_board.proofs.GroundLemmas.{asked_for}
use Rattle.frame_board.proofs.board.BoardSearchable.ref_reaches.Goals as goal

pub returns : goal.returns
returns g c =
    asked_for c.args.self.now.matching.now.«partial» _ _ (sym c.if-is_off.ensures)
    (c.ref_reaches.ensures ∙ ap (λ (s : Scene). items.ref_reaches s c.args.from c.args.to c.args.caseless c.args.at)
    c.view.ensures.scene)
