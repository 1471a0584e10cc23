use Rattle.std.proofs.Common.{◌≤◌, arith}
use Rattle.frame_board.proofs.GroundLemmas.{node_is}
use Rattle.frame_board.proofs.board.BoardSearchable.node.Goals as goal

pub returns : goal.returns
returns g c =
    let board = c.args.self.now in
    let few : c.args.part ≤ 4294967295 = omega arith in
    let e = c.node.ensures in
    node_is board.tree.now board.classes.now board.matching.now board.subject.now board.start
    (g.C.Callouts.answers board.calls.value) board.runs c.args.part c.node.result.now e.here c.requires.within few
    e.is e.below e.rules e.once e.grouped e.stand c.requires.under
