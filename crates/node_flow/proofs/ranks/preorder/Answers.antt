use Rattle.std.proofs.Common.{◌≡◌, ◌∙◌, ◌≤◌, ◌++◌, ◌∷◌, [], nat_eq, All, flat_map, reverse, inl, inr, ap, arith, sym}
use Rattle.std.proofs.Common.{subst, append-nil}
use Rattle.std.proofs.lemmas.List.Elements.{All-push}
use Rattle.pat_tree.specs.Rules.{kids_of}
use Rattle.std.proofs.lemmas.Grind.{common_steps}
use Rattle.std.specs.List.{IsDistinct}
use Rattle.node_flow.specs.Order.{order}
use Rattle.node_flow.proofs.Apart.{stands_once}
use Rattle.node_flow.proofs.Waiting.{taken, fewer, all_front, all_last, all_waiting, lower}
use Rattle.node_flow.proofs.ranks.preorder.Goals as goal

pub loop-id-smaller : goal.loop-id-smaller
loop-id-smaller c =
    let rest = c.pop.new.self.items in
    let id = c.in-Some.id in
    let popped : c.loop-id.waiting.items ≡ rest ++ id ∷ [] = c.in-Some.ensures.items in
    rw (c.in_ok-push_children.ensures, popped)
    (fewer c.args.tree.now.nodes rest id c.node.result.now c.node.ensures.here c.node.ensures.below)

pub loop-id-preserved : goal.loop-id-preserved
loop-id-preserved c =
    let root = c.args.tree.now.root in
    let done = c.loop-id.order.items in
    let rest = c.pop.new.self.items in
    let id = c.in-Some.id in
    let node = c.node.result.now in
    let popped : c.loop-id.waiting.items ≡ rest ++ id ∷ [] = c.in-Some.ensures.items in
    let all_below : All (λ k. k ≤ root) (rest ++ id ∷ []) =
    subst (All (λ k. k ≤ root)) popped c.loop-id.invariant.below in
    let below : id ≤ root = all_last (λ k. k ≤ root) rest id all_below in
    let pushed = c.in_ok-push_children.ensures in
    let added : c.push-in-Some.new.self.items ≡ done ++ id ∷ [] = c.in_ok-push-2.ensures.items in
    record {
      parts = rw (pushed, added) (taken c.args.tree.now.nodes done rest id node c.node.ensures.here
          c.node.ensures.below ∙ rw popped at c.loop-id.invariant.parts);
      below = subst (All (λ k. k ≤ root)) (sym pushed)
          (all_waiting (λ k. k ≤ root) rest (kids_of node) (all_front (λ k. k ≤ root) rest (id ∷ []) all_below)
          (lower (kids_of node) id root below c.node.ensures.below));
      done = subst (All (λ k. k ≤ root)) (sym added) (All-push (λ k. k ≤ root) done id c.loop-id.invariant.done below);
      once = inr c.node.ensures.once;
    }

pub returns-clause-once : goal.returns-clause-once
unfolding IsDistinct
returns-clause-once c =
    let nodes = c.args.tree.now.nodes in
    let root = c.args.tree.now.root in
    let empty : c.loop-id.waiting.items ≡ [] = grind (arith, common_steps, c.in_default.ensures.cases) in
    let whole : c.loop-id.order.items ≡ order nodes root = sym (append-nil c.loop-id.order.items)
    ∙ ap (λ w. c.loop-id.order.items ++ flat_map (order nodes) (reverse w)) (sym empty)
    ∙ c.loop-id.invariant.parts in
    elim c.loop-id.invariant.once [
      | inl nothing ↦ subst (IsDistinct nat_eq) (sym nothing) tt
      | inr apart ↦ subst (IsDistinct nat_eq) (sym whole) (stands_once nodes root apart)
    ]
