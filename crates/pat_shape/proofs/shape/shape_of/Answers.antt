use Rattle.std.proofs.Common.{◌≡◌, ◌∙◌, ℕ, ◌+◌, ◌-◌, ◌<◌, get_or, ◌∷◌, ◌++◌, [], List, length, length-append, Option}
use Rattle.std.proofs.Common.{None, sym, ap, subst, arith}
use Rattle.std.specs.Prelude.{IfSome}
use Rattle.std.proofs.lemmas.Option.{same_Some}
use Rattle.pat_tree.specs.Nested.{tree_at, trees}
use Rattle.regex_hir.specs.Meaning.{meaning}
use Rattle.regex_hir.specs.declared.hir.Hir.{Hir}
use Rattle.pat_shape.specs.IsShape.{IsShape, KeepShapes}
use Rattle.pat_shape.proofs.Kept.{lent_whole, keep_one}
use Rattle.pat_shape.proofs.shape.shape_of.Goals as goal

pub loop-id-preserved : goal.loop-id-preserved
loop-id-preserved c =
    let tree = c.args.tree.now in
    let lined = c.args.lined in
    let old = c.loop-id.shapes.items in
    let new = c.node_shape.new.shapes in
    let x = c.in_ok-shape.shape in
    let same : length new ≡ length old = c.in_ok-shape.ensures.same ∙ ap length c.deref_mut.ensures.value in
    let count : length old ≡ c.loop-id.id = c.loop-id.invariant.0 in
    let len : c.loop-id.shapes.len ≡ length old = let ok = c.loop-id.shapes.ok.0 in omega (arith, ok) in
    let items : c.push.new.self.items ≡ new ++ x ∷ [] = c.in_ok-push.ensures.items
    ∙ ap (λ (l : List (Option Hir)). l ++ x ∷ []) (lent_whole c.loop-id.shapes.len new old same len) in (
      ap length items ∙ length-append new (x ∷ []) ∙ ap (λ n. n + 1) (same ∙ count),
      subst (KeepShapes tree lined) (sym items) (keep_one tree lined new x c.in_ok-shape.ensures.kept
          (rw (same, count, ← c.node-node.ensures.is) c.in_ok-shape.ensures.is)),
    )

pub returns-in-Some : goal.returns-in-Some
returns-in-Some c =
    let tree = c.args.tree.now in
    let lined = c.args.lined in
    let items = c.loop-id.shapes.items in
    let ok = c.loop-id.shapes.ok.0 in
    let count = c.loop-id.invariant.0 in
    let most = c.loop-id.auto.id-end in
    let least = c.loop-id-test.false in
    let root = c.root-2.ensures in
    let last : c.loop-id.shapes.len - 1 ≡ tree.root = omega (arith, ok, count, most, least, root) in
    let low : tree.root < length items = omega (arith, count, least, root) in
    let some : 0 < c.loop-id.shapes.len = omega (arith, ok, count, least) in
    let value = same_Some c.in-Some.shape (get_or items (c.loop-id.shapes.len - 1) None)
    (c.in-Some.ensures.value None some) in
    subst (λ (o : Option Hir). IfSome o (λ (hir : Hir). IsShape tree lined (tree_at (trees tree.nodes) tree.root)
    (meaning hir)))
    (sym (value ∙ ap (λ (n : ℕ). get_or items n None) last)) (c.loop-id.invariant.1 tree.root low)
