use Rattle.std.proofs.Common.{All, subst}
use Rattle.pat_tree.specs.Rules.{kids_of}
use Rattle.pat_shape.specs.Plain.{IsPlainAt}
use Rattle.pat_shape.proofs.PlainNodes.{parts_plain}
use Rattle.pat_shape.proofs.plain.is_plain_node.Goals as goal

pub returns-in-Seq : goal.returns-in-Seq
returns-in-Seq c trees taking plain e =
    rw c.in-Seq.is (parts_plain c.args.dots trees c.in-Seq.field-0
    (subst (λ n. All (IsPlainAt c.args.dots trees) (kids_of n)) c.in-Seq.is plain))

pub returns-in-Group : goal.returns-in-Group
returns-in-Group c trees taking plain e =
    rw c.in-Group.is (parts_plain c.args.dots trees c.in-Group.branches
    (subst (λ n. All (IsPlainAt c.args.dots trees) (kids_of n)) c.in-Group.is plain))
