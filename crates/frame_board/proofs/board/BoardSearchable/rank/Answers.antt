use Rattle.node_flow.proofs.InTurn.{place_within, place_at}
use Rattle.node_flow.specs.Order.{order, place_in}
use Rattle.frame_board.proofs.board.BoardSearchable.rank.Goals as goal

pub returns : goal.returns
returns g c =
    let tree = c.args.self.now.tree.now in
    let whole = order tree.nodes tree.root in
    c.rank.ensures tree.nodes tree.root (place_in whole c.args.part) c.args.self.now.ranks
    (place_within whole c.args.part c.requires.under) (place_at whole c.args.part c.requires.under)
