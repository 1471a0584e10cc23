use Rattle.std.proofs.Common.{◌∙◌, sym, subst}
use Rattle.frame_state.specs.Calls.{IsCalled}
use Rattle.frame_board.specs.Ready.{ground_in}
use Rattle.frame_board.proofs.GroupParts.{called_part}
use Rattle.frame_board.proofs.board.BoardSearchable.group.Goals as goal

pub returns : goal.returns
returns g c =
    let board = c.args.self.now in
    subst (IsCalled (ground_in board.tree.now board.matching.now board.subject.now board.start
    (g.C.Callouts.answers board.calls.value)) c.args.number)
    (sym (c.group.ensures ∙ board.places c.args.number))
    (called_part board.tree.now board.classes.now board.matching.now board.subject.now board.start
    (g.C.Callouts.answers board.calls.value) board.runs c.is_sound.ensures c.args.number)
