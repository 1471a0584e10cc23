use Rattle.std.proofs.Common.{arith}
use Rattle.frame_parts.proofs.PassTurns.{first_branch, needs_group, needs_capture}
use Rattle.frame_parts.proofs.passing.need_of.Goals as goal

pub leading_need-requires-clause-inside : goal.leading_need-requires-clause-inside
leading_need-requires-clause-inside g c = first_branch (g.S.Searchable.searched c.args.on.now)
    (g.met.S.Searchable.sound c.args.on.now) c.args.part _ c.requires.inside c.node.ensures _ _ c.in-Group.is _
    c.as_slice.ensures c.in-len1.len_at_least

pub returns-in-None-clause-needs : goal.returns-in-None-clause-needs
returns-in-None-clause-needs g c =
    needs_group (g.S.Searchable.searched c.args.on.now) (g.met.S.Searchable.sound c.args.on.now) c.args.part _
    c.node.ensures _ _ c.in-Group.is _ c.as_slice.ensures
    (omega (arith, c.in-len1.len_at_least, c.in-len1.len_below))
    c.in-Some-leading_need.need c.in-Some-leading_need.ensures c.in-None.is

pub returns-in-Some-number-clause-needs : goal.returns-in-Some-number-clause-needs
returns-in-Some-number-clause-needs g c =
    needs_capture (g.S.Searchable.searched c.args.on.now) (g.met.S.Searchable.sound c.args.on.now) c.args.part _
    c.node.ensures _ _ c.in-Group.is _ c.as_slice.ensures
    (omega (arith, c.in-len1.len_at_least, c.in-len1.len_below))
    c.in-Some-leading_need.need c.in-Some-leading_need.ensures _ c.in-Some-number.is
