use Rattle.grep_match.specs.Compiled.{patterns_in}
use Rattle.grep_match.proofs.Widening.{are_wider}
use Rattle.grep_match.proofs.Finding.{are_exact, as_wide}
use Rattle.grep_match.proofs.wider.wider_of.Goals as goal

pub returns-in-Ok-Some-clause-wider : goal.returns-in-Ok-Some-clause-wider
returns-in-Ok-Some-clause-wider c =
    let wider = c.in-Ok-Some.wider in
    as_wide c.args.plan.now (patterns_in c.args.patterns.now) wider c.for_plan.result c.for_plan.ensures.hir
    c.for_plan.ensures.most c.for_plan.ensures.utf
    (are_wider c.args.plan.now c.limits-matching.result (patterns_in c.args.patterns.now) wider
    c.limits-matching.ensures
    (rw c.in-Ok-Some.field-0-is at (rw c.in-Ok-Some.is at c.wider_within.ensures.misses)))

pub returns-in-Ok-Some-clause-exact : goal.returns-in-Ok-Some-clause-exact
returns-in-Ok-Some-clause-exact c = λ on.
    let wider = c.in-Ok-Some.wider in
    are_exact c.args.plan.now c.limits-matching.result (patterns_in c.args.patterns.now) wider c.for_plan.result
    c.limits-matching.ensures c.for_plan.ensures.hir c.for_plan.ensures.most c.for_plan.ensures.utf
    (c.for_plan.ensures.first on)
    ((rw c.in-Ok-Some.field-0-is at (rw c.in-Ok-Some.is at c.wider_within.ensures.finds))
    (c.for_plan.ensures.exact on))
