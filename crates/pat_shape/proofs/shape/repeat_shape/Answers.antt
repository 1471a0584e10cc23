use Rattle.std.proofs.Common.{Option, subst}
use Rattle.std.specs.Prelude.{IfSome}
use Rattle.pat_tree.specs.Nested.{tree_at, trees}
use Rattle.regex_hir.specs.Meaning.{meaning}
use Rattle.regex_hir.specs.declared.hir.Hir.{Hir}
use Rattle.pat_shape.specs.IsShape.{IsShape}
use Rattle.pat_shape.proofs.Kept.{repeat_is}
use Rattle.pat_shape.proofs.shape.repeat_shape.Goals as goal

pub returns-in_ok-rounds-in-Some : goal.returns-in_ok-rounds-in-Some
returns-in_ok-rounds-in-Some c lazily =
    let tree = c.args.tree.now in
    let body = tree_at (trees tree.nodes) c.args.k in
    let of : IsShape tree c.args.lined body (meaning c.in-Some.sub) =
    subst (λ (o : Option Hir). IfSome o (λ hir. IsShape tree c.args.lined body (meaning hir))) c.in-Some.is c.requires
    in
    repeat_is tree c.args.lined body (meaning c.in-Some.sub) _ c.args.min c.args.max lazily
    (c.is_in_order.ensures c.if-is_in_order.true) of c.in_ok-rounds-in-Some.ensures
