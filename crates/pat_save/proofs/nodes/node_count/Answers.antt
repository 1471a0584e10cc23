use Rattle.std.proofs.Common.{arith}
use Rattle.pat_save.proofs.Turns.{root_last}
use Rattle.pat_save.proofs.nodes.node_count.Goals as goal

pub returns-clause-all : goal.returns-clause-all
returns-clause-all c =
    let tree = c.args.tree.now in
    omega (arith, root_last tree.nodes tree.root c.is_sound.ensures.root c.requires, c.root.ensures)
