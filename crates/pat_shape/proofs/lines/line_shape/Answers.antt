use Rattle.std.proofs.Common.{◌+◌, ◌≤◌, subst}
use Rattle.pat_tree.specs.declared.options.Options.{Options}
use Rattle.pat_bounds.specs.Bounds.{at}
use Rattle.ordered_search.specs.Setting.{lower_of}
use Rattle.pat_shape.proofs.LineShapes.{lines_told, exact_told}
use Rattle.pat_shape.proofs.lines.line_shape.Goals as goal

pub returns-in-Some-clause-shape : goal.returns-in-Some-clause-shape
returns-in-Some-clause-shape c =
    let matching = c.args.matching.now in
    let b = c.in-Some.bound in
    lines_told c.args.tree.now matching c.args.most b (rw c.in-Some.is at c.in_ok-bound.ensures)
    (subst (λ (o : Options). at b.steps (c.args.most + 1) ≤ lower_of o.match_limit matching.match_limit)
    c.options.ensures
    (c.is_within.ensures.steps c.if-is_within.true))
    (c.is_within.ensures.units c.if-is_within.true) c.requires.whole c.shape_under.result c.shape_under.ensures.shape

pub returns-in-Some-clause-exact : goal.returns-in-Some-clause-exact
returns-in-Some-clause-exact c =
    let matching = c.args.matching.now in
    let b = c.in-Some.bound in
    exact_told c.args.tree.now matching c.args.most b (rw c.in-Some.is at c.in_ok-bound.ensures)
    (subst (λ (o : Options). at b.steps (c.args.most + 1) ≤ lower_of o.match_limit matching.match_limit)
    c.options.ensures
    (c.is_within.ensures.steps c.if-is_within.true))
    (c.is_within.ensures.units c.if-is_within.true) c.requires.whole c.shape_under.result c.shape_under.ensures.shape
    c.shape_under.ensures.exact
