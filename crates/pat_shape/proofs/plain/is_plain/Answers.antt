use Rattle.std.proofs.Common.{◌≡◌, ◌∙◌, ◌+◌, ◌∷◌, [], All, length, length-append, true, inl}
use Rattle.std.proofs.Common.{inr, sym, ap, subst, arith}
use Rattle.std.proofs.lemmas.Bool.{cases_lt}
use Rattle.pat_tree.specs.declared.options.Options.{Options}
use Rattle.pat_tree.specs.Nested.{nest, tree_at, trees}
use Rattle.pat_tree.specs.Rules.{kids_of}
use Rattle.pat_shape.specs.IsShape.{dots_of, is_lf}
use Rattle.pat_shape.specs.Plain.{IsPlainAt, AreTaking, takes_some, is_plain}
use Rattle.pat_shape.proofs.PlainNodes.{all_of, taking_more}
use Rattle.pat_shape.proofs.plain.is_plain.Goals as goal

pub loop-id-preserved : goal.loop-id-preserved
loop-id-preserved c =
    let tree = c.args.tree.now in
    let ts = trees tree.nodes in
    let dots = dots_of tree true in
    let id = c.loop-id.id in
    let old = c.loop-id.marks.items in
    let h = c.loop-id.invariant in
    let items = c.in_ok-push.ensures.items in
    let first : c.deref.result.now ≡ old = c.deref.ensures.value in
    let taking : AreTaking ts c.deref.result.now = subst (AreTaking ts) (sym first) h.taking in
    let marked : c.takes_some-mark.result ≡ true → takes_some (tree_at ts (length old)) ≡ true = λ on.
    subst (λ n. takes_some (tree_at ts n) ≡ true) (sym h.count)
    (subst (λ t. takes_some t ≡ true) c.node-node.ensures.is
    (c.takes_some-mark.ensures ts (subst (AreTaking ts) (sym c.deref-in-loop-id.ensures.value) h.taking) on)) in
    let same : c.is_lf-dots.result ≡ dots =
    c.is_lf-dots.ensures ∙ ap (λ (o : Options). is_lf o.newline) c.options.ensures in
    let kids = kids_of c.node-node.result.now in
    let below = all_of (IsPlainAt dots ts) id kids h.plain c.node-node.ensures.below in
    let here : IsPlainAt dots ts id =
    subst (λ t. is_plain dots t ≡ true) c.node-node.ensures.is
    (subst (λ d. is_plain d (nest ts c.node-node.result.now) ≡ true) same
    (c.is_plain_node.ensures ts taking (subst (λ d. All (IsPlainAt d ts) kids) (sym same) below)
    c.if-not-is_plain_node.false)) in
    record {
      count = ap length items ∙ length-append old (c.takes_some-mark.result ∷ [])
          ∙ ap (λ n. n + 1) h.count;
      taking = subst (AreTaking ts) (sym items) (taking_more ts old c.takes_some-mark.result h.taking marked);
      plain = λ k low. elim (cases_lt k id) [
        | inl less ↦ h.plain k less
        | inr past ↦ let same : id ≡ k = omega (arith, low, past) in subst (IsPlainAt dots ts) same here
      ];
    }
