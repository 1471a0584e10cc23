use Rattle.pat_tree.specs.Nested.{cond_of, other_of, tree_at, trees}
use Rattle.regex_hir.specs.Meaning.{meaning}
use Rattle.pat_shape.proofs.Kept.{condition_is}
use Rattle.pat_shape.proofs.shape.condition_shape.Goals as goal

pub returns-clause-is : goal.returns-clause-is
returns-clause-is c =
    let ts = trees c.args.tree.now.nodes in
    condition_is c.args.tree.now c.args.lined (cond_of ts c.args.test.now) (tree_at ts c.args.yes)
    (other_of ts c.args.no) (meaning c.in-Some.first) (meaning c.in-Some-other_shape.second)
    (meaning c.in_ok-either.field-0)
    (c.is_plain.ensures ts c.if-not-is_plain.false) c.in-Some.ensures.is c.in-Some-other_shape.ensures.is
    c.in_ok-either.ensures
