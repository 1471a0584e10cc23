use Rattle.frame_board.proofs.board.BoardSearchable.branch.Goals as goal

pub returns : goal.returns
returns g c = c.branch-self.ensures c.args.self.now.tree.now.nodes c.args.self.now.tree.now.root
    c.args.self.now.branches
