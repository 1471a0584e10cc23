use Rattle.frame_board.proofs.GroundLemmas.{scene_same}
use Rattle.frame_board.proofs.board.Board.view.Goals as goal

pub returns-clause-scene : goal.returns-clause-scene
returns-clause-scene g c =
    let board = c.args.self.now in
    scene_same board.tree.now board.classes.now (record {
      subject = board.subject;
      start = board.start;
      options = c.options.result;
      matching = board.matching;
    }) (g.C.Callouts.answers board.calls.value)
    board.runs.shown c.options.ensures
