use Rattle.pat_save.specs.declared.reading.Growing.{Growing}
use Rattle.pat_save.proofs.Piles.{fresh_grown, root_in}
use Rattle.pat_save.proofs.reading.take_tree.Goals as goal

pub take_nodes-requires-clause-grown : goal.take_nodes-requires-clause-grown
take_nodes-requires-clause-grown c =
    let growing : Growing = record { draft = c.in_ok-draft.draft; groups = c.new.result; pile = c.new-2.result } in
    fresh_grown c.in_ok-draft.around c.args.options.utf growing c.in_ok-draft.ensures.around
    c.in_ok-draft.ensures.none.0
    c.new.ensures c.new-2.ensures.items

pub finish-requires-clause-root : goal.finish-requires-clause-root
finish-requires-clause-root c =
    root_in c.in_ok-draft.around c.args.text.now c.in_ok-draft.rest.now c.in_ok-root.root
    c.take_nodes.new.growing.draft.nodes c.in_ok-root.rest.now c.in_ok-root.ensures.gives
