use Rattle.node_flow.proofs.Branching.{others_untold}
use Rattle.node_flow.proofs.branches.enclose.Goals as goal

pub returns-in_default : goal.returns-in_default
returns-in_default c =
    others_untold _ _ c.args.outer c.in_default.not-Seq c.in_default.not-Group c.in_default.not-Atomic
    c.in_default.not-Look c.in_default.not-Cond c.requires.untold
