use Rattle.frame_board.proofs.SameNames.{names_same}
use Rattle.frame_board.proofs.board.BoardSearchable.same_name.Goals as goal

pub returns : goal.returns
returns g c =
    names_same c.args.self.now.tree.now.verb_names c.args.first c.args.second c.name_of.result.now
    c.name_of-2.result.now _
    c.eq.ensures c.name_of.ensures c.name_of-2.ensures
