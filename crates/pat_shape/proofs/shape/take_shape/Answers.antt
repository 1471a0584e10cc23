use Rattle.std.proofs.Common.{sym, subst, set}
use Rattle.pat_shape.specs.IsShape.{KeepShapes}
use Rattle.pat_shape.proofs.Kept.{keep_set}
use Rattle.pat_shape.proofs.shape.take_shape.Goals as goal

pub returns-clause-kept : goal.returns-clause-kept
returns-clause-kept c =
    subst (λ x. KeepShapes c.args.tree.now c.args.lined (set c.args.shapes.now c.args.k x)) (sym c.take.ensures.after)
    (keep_set c.args.tree.now c.args.lined c.args.shapes.now c.args.k c.requires.below c.requires.kept)
