use Rattle.std.proofs.Common.{◌∙◌, sym}
use Rattle.pat_shape.proofs.PlainNodes.{all_taking, one_taking}
use Rattle.pat_shape.proofs.plain.takes_some.Goals as goal

pub returns-in-Seq : goal.returns-in-Seq
returns-in-Seq c trees taking e =
    rw c.in-Seq.is (one_taking trees c.args.marks.now taking c.in-Seq.kids
    (rw c.as_slice.ensures at (sym c.one_marked.ensures ∙ e)))

pub returns-in-Group : goal.returns-in-Group
returns-in-Group c trees taking e =
    rw c.in-Group.is (all_taking trees c.args.marks.now taking c.in-Group.branches
    (rw c.as_slice-in-Group.ensures at (sym c.all_marked.ensures ∙ e)))
