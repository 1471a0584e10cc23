use Rattle.std.proofs.Common.{refl}
use Rattle.pat_nodes.proofs.Extending.{none_taken, adds_node}
use Rattle.pat_nodes.proofs.nodes.repeat.Goals as goal

pub returns-in_ok-id-in-Single-clause-adds : goal.returns-in_ok-id-in-Single-clause-adds
returns-in_ok-id-in-Single-clause-adds c = adds_node c.args.draft.now c.add.new.self _
    c.in_ok-id-in-Single.ensures.grows c.in_ok-id-in-Single.ensures.refs refl refl c.in_ok-id-in-Single.ensures.groups
    (λ n. refl) (none_taken c.args.draft.now.nodes)

pub returns-in_ok-id-in-Whole-clause-adds : goal.returns-in_ok-id-in-Whole-clause-adds
returns-in_ok-id-in-Whole-clause-adds c = adds_node c.args.draft.now c.add-in-Whole.new.self _
    c.in_ok-id-in-Whole.ensures.grows c.in_ok-id-in-Whole.ensures.refs refl refl c.in_ok-id-in-Whole.ensures.groups
    (λ n. refl) (rw c.in-Whole.is at c.requires.loose)

pub returns-in_ok-id-in-Look-clause-adds : goal.returns-in_ok-id-in-Look-clause-adds
returns-in_ok-id-in-Look-clause-adds c = adds_node c.args.draft.now c.add-in-Look.new.self _
    c.in_ok-id-in-Look.ensures.grows c.in_ok-id-in-Look.ensures.refs refl refl c.in_ok-id-in-Look.ensures.groups
    (λ n. refl) (rw c.in-Look.is at c.requires.loose)
