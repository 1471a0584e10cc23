use Rattle.std.proofs.Common.{refl}
use Rattle.pat_nodes.proofs.Extending.{none_taken, adds_node}
use Rattle.pat_nodes.proofs.literal.add_character.Goals as goal

pub returns-clause-adds : goal.returns-clause-adds
returns-clause-adds c = adds_node c.args.draft.now c.add.new.self _ c.in_ok-id.ensures.grows c.in_ok-id.ensures.refs
    refl refl c.in_ok-id.ensures.groups (λ n. refl) (none_taken c.args.draft.now.nodes)
