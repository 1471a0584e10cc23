use Rattle.std.proofs.Common.{◌∙◌, sym, ap}
use Rattle.match_items.specs.Scene.{Scene}
use Rattle.match_items.specs.Items.{after_ref, ref_reaches}
use Rattle.match_items.specs.Views.{bare_text}
use Rattle.frame_board.specs.Ready.{setting_in}
use Rattle.frame_board.specs.Told.{place_in}
use Rattle.frame_board.proofs.GroundLemmas.{place_told, empty_ref}
use Rattle.frame_board.proofs.board.BoardSearchable.refer.Goals as goal

pub returns : goal.returns
returns g c =
    let bare = bare_text c.view-view.result in
    c.place_of.ensures
    ∙ ap place_in c.ref_step.ensures
    ∙ place_told (after_ref bare c.args.from c.args.to c.args.caseless c.args.at)
    (ref_reaches bare c.args.from c.args.to c.args.caseless c.args.at)
    ∙ ap (λ (s : Scene). after_ref s c.args.from c.args.to c.args.caseless c.args.at) c.view-view.ensures.scene

pub returns-then-to-from : goal.returns-then-to-from
returns-then-to-from g c =
    let board = c.args.self.now in
    let scene = (setting_in board.tree.now board.matching.now board.subject.now board.start
    (g.C.Callouts.answers board.calls.value)).scene in
    sym (empty_ref scene c.args.from c.args.to c.args.at c.args.caseless c.if-to-from.true)
