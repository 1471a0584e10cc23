use Rattle.std.proofs.Common.{◌∷◌, ◌++◌, [], length}
use Rattle.pat_tree.specs.Rules.{kids_of}
use Rattle.pat_tree.specs.Parts.{with_node}
use Rattle.check_tests.specs.Drafts.{IsDraft}
use Rattle.check_tests.proofs.DraftLemmas.{last_below, last_free, draft_more}
use Rattle.check_tests.proofs.build.add.Goals as goal

pub add-requires-clause-kids : goal.add-requires-clause-kids
add-requires-clause-kids c = last_below c.args.draft.now c.args.waiting.now.items (kids_of c.args.node) c.requires.made

pub add-requires-clause-fresh : goal.add-requires-clause-fresh
add-requires-clause-fresh c = last_free c.args.draft.now c.args.waiting.now.items (kids_of c.args.node) c.requires.made

pub returns-clause-made : goal.returns-clause-made
returns-clause-made c =
    let d = c.args.draft.now in
    let made : IsDraft (with_node d (record { node = c.args.node; at = c.args.at }))
    (c.args.waiting.now.items ++ length d.nodes ∷ []) =
    draft_more d c.args.waiting.now.items (record { node = c.args.node; at = c.args.at }) c.requires.made in
    rw (c.in_ok-push.ensures.items, c.in_ok-id.ensures.number, c.in_ok-id.ensures.grows) made
