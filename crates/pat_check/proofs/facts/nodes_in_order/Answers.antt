use Rattle.std.proofs.Common.{◌∙◌, map, ap}
use Rattle.pat_tree.specs.Nested.{trees, tree_at}
use Rattle.pat_lengths.proofs.OrderLemmas.{whole_in_order}
use Rattle.pat_check.proofs.facts.nodes_in_order.Goals as goal

pub returns-clause-nodes : goal.returns-clause-nodes
returns-clause-nodes c =
    let t = c.args.tree.now in
    ap (map (tree_at (trees t.nodes))) c.in_ok-order.ensures.parts ∙ whole_in_order t c.is_sound.ensures
