use Rattle.pat_shape.proofs.Kept.{no_other_told, other_told}
use Rattle.pat_shape.proofs.shape.other_shape.Goals as goal

pub returns-in-Some-clause-is : goal.returns-in-Some-clause-is
returns-in-Some-clause-is c =
    other_told c.args.tree.now c.args.lined c.args.no c.in-Some.no c.take_shape.result c.in-Some.is
    c.take_shape.ensures.is

pub returns-in-None-clause-is : goal.returns-in-None-clause-is
returns-in-None-clause-is c = no_other_told c.args.tree.now c.args.lined c.args.no c.in-None.is
