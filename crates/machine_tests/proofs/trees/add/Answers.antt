use Rattle.std.proofs.Common.{◌∷◌, ◌++◌, [], length}
use Rattle.pat_tree.specs.Rules.{kids_of}
use Rattle.pat_tree.specs.Parts.{with_node}
use Rattle.machine_tests.specs.Made.{IsMade}
use Rattle.machine_tests.proofs.MadeLemmas.{made_more, made_fresh, made_last}
use Rattle.machine_tests.proofs.trees.add.Goals as goal

pub add-requires-clause-kids : goal.add-requires-clause-kids
add-requires-clause-kids c = made_last c.args.draft.now c.args.waiting.now.items (kids_of c.args.node) c.requires.made

pub add-requires-clause-fresh : goal.add-requires-clause-fresh
add-requires-clause-fresh c = made_fresh c.args.draft.now c.args.waiting.now.items (kids_of c.args.node) c.requires.made

pub returns-clause-made : goal.returns-clause-made
returns-clause-made c =
    let d = c.args.draft.now in
    let made : IsMade (with_node d (record { node = c.args.node; at = 0 }))
    (c.args.waiting.now.items ++ length d.nodes ∷ []) =
    made_more d c.args.waiting.now.items (record { node = c.args.node; at = 0 }) c.requires.made in
    rw (c.in_ok-push.ensures.items, c.in_ok-id.ensures.number, c.in_ok-id.ensures.grows) made
