use Rattle.std.proofs.Common.{inl, inr, ◌≡◌, true, sym, subst, ◌∙◌, arith}
use Rattle.std.proofs.lemmas.Bool.{cases_lt}
use Rattle.pat_tree.specs.Nested.{tree_at, trees}
use Rattle.ordered_search.specs.Plain.{IsPlain}
use Rattle.match_drive.specs.Run.{is_plain}
use Rattle.match_drive.proofs.PastRun.{plain_node}
use Rattle.match_drive.proofs.run.is_plain.Goals as goal

pub loop-id-preserved : goal.loop-id-preserved
loop-id-preserved c k less =
    let ts = trees c.args.tree.now.nodes in
    let plain : is_plain c.node.result.now ≡ true = sym c.is_plain_node.ensures
    ∙ c.if-not-is_plain_node.false in
    elim (cases_lt k c.loop-id.id) [
      | inl earlier ↦ c.loop-id.invariant k earlier
      | inr here ↦ (
          let same : c.loop-id.id ≡ k = omega arith in
          subst (λ j. IsPlain (tree_at ts j)) same
          (subst IsPlain c.node.ensures.is
          (plain_node ts c.loop-id.id c.loop-id.invariant c.node.result.now plain
          c.node.ensures.below))
          )
    ]

pub returns : goal.returns
returns c h =
    let ts = trees c.args.tree.now.nodes in
    let plain : is_plain c.node-2.result.now ≡ true = sym c.is_plain_node-2.ensures ∙ h in
    let end = c.root-id-end.ensures in
    let root = c.root.ensures in
    let past = c.loop-id-test.false in
    subst (λ k. IsPlain (tree_at ts k)) root
    (subst IsPlain c.node-2.ensures.is
    (plain_node ts c.root.result
    (λ k less. c.loop-id.invariant k (omega (arith, end, root, past, less))) c.node-2.result.now
    plain c.node-2.ensures.below))
