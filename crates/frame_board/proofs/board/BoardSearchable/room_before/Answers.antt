use Rattle.std.proofs.Common.{◌∙◌, List, ℕ, length, ap}
use Rattle.match_items.specs.Scene.{Scene}
use Rattle.match_items.specs.Views.{bare_text}
use Rattle.frame_board.specs.Standing.{places_same}
use Rattle.frame_board.proofs.board.BoardSearchable.room_before.Goals as goal

pub returns : goal.returns
returns g c =
    c.room_before.ensures
    ∙ ap (λ (ps : List ℕ). length ps)
    (places_same (bare_text c.view.result) _ (ap (λ (s : Scene). s.options) c.view.ensures.scene)
    (ap (λ (s : Scene). s.subject) c.view.ensures.scene) c.args.most c.args.at)
