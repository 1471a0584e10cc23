use Rattle.pat_tree.specs.declared.nodes.Node.TheVariants as node
use Rattle.frame_state.proofs.KidParts.{kid_parts}
use Rattle.frame_parts.proofs.atomic.enter_atomic.Goals as goal

pub only_repeat-requires : goal.only_repeat-requires
only_repeat-requires g c =
    kid_parts (g.S.Searchable.searched c.args.on.now) c.args.at (node.Atomic c.args.branches.now)
    c.requires.valid.running.0 c.requires.node
