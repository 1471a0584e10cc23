use Rattle.std.proofs.Common.{◌≡◌, [], inl, inr, subst, sym, arith}
use Rattle.std.proofs.lemmas.Bool.{cases_lt}
use Rattle.pat_tree.specs.Nested.{trees, tree_at}
use Rattle.pat_lengths.specs.Nodes.{named_in}
use Rattle.pat_lengths.proofs.PlainLemmas.{names_none}
use Rattle.pat_lengths.proofs.rounds.names_groups.Goals as goal

pub loop-id-preserved : goal.loop-id-preserved
loop-id-preserved c k l =
    let ts = trees c.args.tree.now.nodes in
    let id = c.loop-id.id in
    let told = c.node.ensures in
    elim (cases_lt k id) [
      | inl lt ↦ c.loop-id.invariant k lt
      | inr le ↦
          let same : k ≡ id = omega (arith, l, le) in
          subst (λ j. named_in (tree_at ts j) ≡ []) (sym same)
          (names_none ts id c.node.result.now told.is told.rules.test told.below
          (c.is_naming.ensures ts c.if-is_naming.false) c.loop-id.invariant)
    ]
