use Rattle.std.proofs.Common.{◌≤◌, ◌++◌, [], length, get_or, sym, ap, ◌∙◌, subst, arith}
use Rattle.std.proofs.lemmas.List.{get_or_default}
use Rattle.pat_tree.specs.Rules.{kids_of}
use Rattle.pat_tree.specs.declared.nodes.Node.{Node}
use Rattle.pat_tree.specs.declared.nodes.Placed.{Placed}
use Rattle.pat_save.specs.Checked.{NamesRising}
use Rattle.pat_save.specs.Image.{node_bytes, placed_bytes}
use Rattle.pat_save.specs.Sized.{IsSizedNode}
use Rattle.pat_save.proofs.Steps.{within_all, within_more, written_more}
use Rattle.pat_save.proofs.Turns.{kids_few}
use Rattle.pat_save.proofs.nodes.put_nodes.Goals as goal

pub put_node-requires-clause-few : goal.put_node-requires-clause-few
put_node-requires-clause-few c =
    let tree = c.args.tree.now in
    let here : Placed = record { node = c.node.result.now; at = 0 } in
    let few = kids_few [] tree.nodes c.loop-id.id here c.requires.turns (omega arith) in
    let P : Node → Type 0 = λ node. length (kids_of node) ≤ 4294967295 in
    subst P (sym (c.node.ensures.here here)) (omega (arith, few))

pub put_node-requires-clause-rising : goal.put_node-requires-clause-rising
put_node-requires-clause-rising c =
    let here : Placed = record { node = c.node.result.now; at = 0 } in
    let P : Node → Type 0 = λ node. NamesRising node in
    subst P (sym (c.node.ensures.here here)) (c.requires.rising c.loop-id.id here (omega arith))

pub loop-id-preserved : goal.loop-id-preserved
loop-id-preserved c =
    let tree = c.args.tree.now in
    let here : Placed = record { node = c.node.result.now; at = 0 } in
    let P : Node → Type 0 = λ node. IsSizedNode node in (
      c.in_ok-put_node.ensures.bytes ∙ ap (λ node. c.loop-id.out.items ++ node_bytes node) (c.node.ensures.here here)
          ∙ written_more placed_bytes tree.nodes c.loop-id.id here _ c.loop-id.out.items (omega arith) c.loop-id.invariant.0,
      within_more (λ p. IsSizedNode p.node) tree.nodes c.loop-id.id (get_or tree.nodes c.loop-id.id here) (omega arith)
          (λ d. get_or_default tree.nodes c.loop-id.id d here (omega arith))
          (subst P (c.node.ensures.here here) c.in_ok-put_node.ensures.short) c.loop-id.invariant.1,
    )

pub returns-clause-short : goal.returns-clause-short
returns-clause-short c =
    within_all (λ p. IsSizedNode p.node) c.args.tree.now.nodes c.loop-id.id (omega arith) c.loop-id.invariant.1
