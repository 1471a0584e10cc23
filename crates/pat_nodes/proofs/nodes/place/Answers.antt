use Rattle.std.proofs.Common.{refl}
use Rattle.pat_nodes.proofs.Extending.{none_taken, adds_node}
use Rattle.pat_nodes.proofs.nodes.place.Goals as goal

pub returns-in_ok-id-in-Single-clause-adds : goal.returns-in_ok-id-in-Single-clause-adds
returns-in_ok-id-in-Single-clause-adds c = adds_node c.args.draft.now c.add.new.self _
    c.in_ok-id-in-Single.ensures.grows c.in_ok-id-in-Single.ensures.refs refl refl c.in_ok-id-in-Single.ensures.groups
    (λ n. refl) (none_taken c.args.draft.now.nodes)
