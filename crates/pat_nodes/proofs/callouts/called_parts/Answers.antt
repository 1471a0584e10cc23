use Rattle.std.proofs.Common.{refl, sym, append-nil}
use Rattle.pat_tree.specs.Growing.{loose}
use Rattle.pat_tree.proofs.Growing.{stand_made, stand_none}
use Rattle.pat_nodes.proofs.Extending.{none_taken, adds_node}
use Rattle.pat_nodes.proofs.callouts.called_parts.Goals as goal

pub returns-clause-stands : goal.returns-clause-stands
returns-clause-stands c =
    rw (c.in_ok-push.ensures.ok, c.new-parts.ensures)
    (stand_made c.in_ok-id.ensures.made (stand_none c.args.draft.now.nodes))

pub returns-clause-loose : goal.returns-clause-loose
returns-clause-loose c =
    let before = loose c.args.draft.now.nodes in
    rw (c.in_ok-push.ensures.ok, c.new-parts.ensures) (c.in_ok-id.ensures.replaces before (sym (append-nil before)))

pub returns-clause-grows : goal.returns-clause-grows
returns-clause-grows c = c.in_ok-id.ensures.made.grows

pub returns-clause-adds : goal.returns-clause-adds
returns-clause-adds c =
    let e = c.in_ok-id.ensures in
    adds_node c.args.draft.now c.add.new.self _ e.grows e.refs refl refl e.groups (λ n. refl)
    (none_taken c.args.draft.now.nodes)
