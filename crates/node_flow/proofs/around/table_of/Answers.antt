use Rattle.std.proofs.Common.{◌≡◌, ℕ, ◌+◌, ◌<◌, ◌≤◌, ◌-◌, ◌⊎◌, inl, inr, subst, nat_eq, ◌++◌, take, drop, length}
use Rattle.std.proofs.Common.{get_or, None, arith, ap, ◌∙◌}
use Rattle.std.proofs.lemmas.List.{get_or_default, length-replicate}
use Rattle.std.proofs.Math.Seq.{take-append_seam}
use Rattle.std.specs.List.{IsDistinct}
use Rattle.pat_tree.specs.Growing.{AreBelow}
use Rattle.pat_tree.specs.Sound.{children}
use Rattle.node_flow.specs.Around.{told_among, told_of, told_by}
use Rattle.node_flow.specs.LookBranches.{child_of}
use Rattle.node_flow.proofs.Building.{start_below, more_below, now_known}
use Rattle.node_flow.proofs.Telling.{none_told, children_untold, children_told, hangs_together}
use Rattle.node_flow.proofs.around.table_of.Goals as goal

pub loop-id-init : goal.loop-id-init
loop-id-init c = record {
  within = omega (arith, c.root.ensures);
  size = ap length c.in_ok-told.ensures ∙ length-replicate (c.root.result + 1) None
      ∙ ap (λ n. n + 1) c.root.ensures;
  told = λ k h. none_told (child_of c.args.around) c.args.tree.now.nodes c.args.tree.now.root c.in_ok-told.told.items
      (c.root.result + 1) k (ap (λ n. n + 1) c.root.ensures) c.in_ok-told.ensures;
  below = start_below c.args.tree.now.nodes c.args.tree.now.root (c.root.result + 1) (ap (λ n. n + 1) c.root.ensures);
  known = inl (ap (λ n. n + 1) c.root.ensures);
}

pub enclose-requires-clause-untold : goal.enclose-requires-clause-untold
enclose-requires-clause-untold c =
    let child = child_of c.args.around in
    let nodes = c.args.tree.now.nodes in
    let root = c.args.tree.now.root in
    let id = c.loop-id.id - 1 in
    let told = c.loop-id.told.items in
    let next : c.loop-id.id ≡ id + 1 = omega (arith, c.loop-id-test.true) in
    let before : (k : ℕ) → k ≤ root → get_or told k None ≡ told_among child (id + 1)
    (drop (id + 1) (take (root + 1) nodes)) k =
    λ k l. c.loop-id.invariant.told k l ∙ ap (λ i. told_among child i (drop i (take (root + 1) nodes)) k) next in
    rw c.deref_mut.ensures.value (children_untold (child_of c.args.around) nodes root id c.node.result.now told
    (omega (arith, c.loop-id.invariant.within)) c.node.ensures.here before c.node.ensures.once
    c.node.ensures.below)

pub loop-id-preserved : goal.loop-id-preserved
loop-id-preserved c =
    let child = child_of c.args.around in
    let nodes = c.args.tree.now.nodes in
    let root = c.args.tree.now.root in
    let id = c.loop-id.id - 1 in
    let told = c.loop-id.told.items in
    let new = c.enclose.new.told in
    let next : c.loop-id.id ≡ id + 1 = omega (arith, c.loop-id-test.true) in
    let small : id ≤ root = omega (arith, c.loop-id.invariant.within) in
    let before : (k : ℕ) → k ≤ root → get_or told k None ≡ told_among child (id + 1)
    (drop (id + 1) (take (root + 1) nodes)) k =
    λ k l. c.loop-id.invariant.told k l ∙ ap (λ i. told_among child i (drop i (take (root + 1) nodes)) k) next in
    let here : c.index-outer.result.now ≡ get_or told id None = c.index-outer.ensures
    ∙ get_or_default told id c.index-outer.result.now None (omega (arith, c.loop-id.invariant.size)) in
    let enclosed : (k : ℕ) → get_or new k None ≡ told_by child told c.node.result.now (get_or told id None) k =
    λ k. c.enclose.ensures k ∙ ap (λ t. told_by child t c.node.result.now c.index-outer.result.now k)
    c.deref_mut.ensures.value ∙ ap (λ o. told_by child told c.node.result.now o k) here in
    let written : take c.loop-id.told.len (new ++ drop (length new) told) ≡ new =
    (let full : c.loop-id.told.len ≡ length new = omega arith in
    ap (λ n. take n (new ++ drop (length new) told)) full ∙ take-append_seam new (drop (length new) told)) in
    rw written record {
      within = omega (arith, c.loop-id.invariant.within);
      size = omega (arith, c.loop-id.invariant.size);
      told = children_told (child_of c.args.around) nodes root id c.node.result.now told small c.node.ensures.here before
          new enclosed;
      below = more_below nodes root id c.node.result.now small c.node.ensures.here c.node.ensures.below
          (subst (λ i. AreBelow i (drop i (take (root + 1) nodes))) next c.loop-id.invariant.below);
      known = inr (now_known nodes root id c.node.result.now c.node.ensures.here c.node.ensures.once
          (subst (λ i. (i ≡ root + 1) ⊎ ((root < length nodes) × IsDistinct nat_eq (children nodes))) next
          c.loop-id.invariant.known));
    }

pub returns-clause-told : goal.returns-clause-told
unfolding told_of
returns-clause-told c =
    let child = child_of c.args.around in
    let nodes = c.args.tree.now.nodes in
    let root = c.args.tree.now.root in
    let done : c.loop-id.id ≡ 0 = omega (arith, c.loop-id-test.false) in
    record {
      count = c.loop-id.invariant.size;
      each = λ k l. c.loop-id.invariant.told k l ∙ ap (λ i. told_among child i (drop i (take (root + 1) nodes)) k) done;
    }

pub returns-clause-laws : goal.returns-clause-laws
returns-clause-laws c =
    let child = child_of c.args.around in
    let nodes = c.args.tree.now.nodes in
    let root = c.args.tree.now.root in
    let done : c.loop-id.id ≡ 0 = omega (arith, c.loop-id-test.false) in
    let below : AreBelow 0 (take (root + 1) nodes) = subst (λ i. AreBelow i (drop i (take (root + 1) nodes))) done
    c.loop-id.invariant.below in
    elim c.loop-id.invariant.known [
      | inl none ↦ absurd (omega (arith, none, done))
      | inr both ↦ hangs_together (child_of c.args.around) nodes root
          (record { short = both.0; below = below; once = both.1 })
    ]
