use Rattle.std.proofs.Common.{refl}
use Rattle.pat_tree.proofs.Loose.{fresh_at_end}
use Rattle.pat_nodes.proofs.Extending.{adds_node}
use Rattle.pat_nodes.proofs.nodes.hold.Goals as goal

pub add-requires-clause-fresh : goal.add-requires-clause-fresh
add-requires-clause-fresh c = rw (c.in_ok-push.ensures.ok, c.new-branches.ensures) (fresh_at_end c.requires.loose)

pub returns-clause-adds : goal.returns-clause-adds
returns-clause-adds c = adds_node c.args.draft.now c.add.new.self _ c.in_ok-id.ensures.grows c.in_ok-id.ensures.refs
    refl refl c.in_ok-id.ensures.groups (λ n. refl)
    (rw (c.in_ok-push.ensures.ok, c.new-branches.ensures) c.requires.loose)
