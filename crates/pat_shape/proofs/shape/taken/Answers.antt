use Rattle.std.proofs.Common.{◌≡◌, ◌∙◌, ℕ, suc, ◌+◌, List, [], ◌∷◌, ◌++◌, map, take, sym, subst, arith}
use Rattle.std.proofs.lemmas.List.{take_all}
use Rattle.pat_tree.specs.Nested.{tree_at, trees}
use Rattle.regex_hir.specs.Meaning.{meaning}
use Rattle.regex_hir.specs.declared.hir.Hir.{Hir}
use Rattle.pat_shape.specs.IsShape.{AreShapes}
use Rattle.pat_shape.proofs.Kept.{are_next}
use Rattle.pat_shape.proofs.shape.taken.Goals as goal

pub loop-i-preserved : goal.loop-i-preserved
loop-i-preserved c =
    let tree = c.args.tree.now in
    let lined = c.args.lined in
    let kids = c.args.kids.now in
    let i = c.loop-i.i in
    let inside = c.loop-i-test.true in
    let next : suc i ≡ i + 1 = omega arith in
    let items = c.in_ok-push-in-Some.ensures.items in
    let all = are_next tree lined kids c.loop-i.subs.items i 0 c.in-Some.sub inside c.loop-i.invariant.are
    c.in-Some.ensures.is in
    record {
      within = omega (arith, inside);
      same = c.take_shape.ensures.same ∙ c.loop-i.invariant.same;
      kept = c.take_shape.ensures.kept;
      are = subst (λ (hs : List Hir). AreShapes tree lined (map (tree_at (trees tree.nodes)) (take (i + 1) kids))
          (map meaning hs)) (sym items)
          (subst (λ (n : ℕ). AreShapes tree lined (map (tree_at (trees tree.nodes)) (take n kids))
          (map meaning (c.loop-i.subs.items ++ c.in-Some.sub ∷ []))) next all);
    }

pub returns-clause-are : goal.returns-clause-are
returns-clause-are c =
    let tree = c.args.tree.now in
    let lined = c.args.lined in
    let whole = take_all c.loop-i.i c.args.kids.now c.loop-i-test.false in
    subst (λ ks. AreShapes tree lined (map (tree_at (trees tree.nodes)) ks) (map meaning c.loop-i.subs.items)) whole
    c.loop-i.invariant.are
