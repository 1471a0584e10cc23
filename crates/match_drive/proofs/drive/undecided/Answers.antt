use Rattle.match_drive.proofs.Left.{tells_no_match, tells_soft_partial}
use Rattle.match_drive.proofs.drive.undecided.Goals as goal

pub returns-in-Some-clause-tells : goal.returns-in-Some-clause-tells
returns-in-Some-clause-tells c = rw c.in-Some.is (tells_soft_partial c.in-Some.start c.args.mark)

pub returns-in-None-clause-tells : goal.returns-in-None-clause-tells
returns-in-None-clause-tells c = rw c.in-None.is (tells_no_match c.args.mark)
