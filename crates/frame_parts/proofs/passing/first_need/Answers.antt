use Rattle.std.proofs.Common.{arith}
use Rattle.frame_parts.proofs.PassTurns.{begins_one, begins_many, begins_anchor}
use Rattle.frame_parts.proofs.passing.first_need.Goals as goal

pub returns-in-One : goal.returns-in-One
returns-in-One g c = begins_one (g.S.Searchable.searched c.args.on.now) (g.met.S.Searchable.sound c.args.on.now)
    c.requires.off c.args.part _ c.node.ensures c.in-One.item c.in-One.is

pub returns-in-OneRepeat : goal.returns-in-OneRepeat
returns-in-OneRepeat g c = begins_many (g.S.Searchable.searched c.args.on.now)
    (g.met.S.Searchable.sound c.args.on.now) c.requires.off c.args.part _ c.node.ensures _ _ _ _ c.in-OneRepeat.is
    (omega (arith, c.if-min-gt0.true))

pub returns-in-Anchor : goal.returns-in-Anchor
returns-in-Anchor g c = begins_anchor (g.S.Searchable.searched c.args.on.now) (g.met.S.Searchable.sound c.args.on.now)
    c.requires.off c.args.part _ c.node.ensures c.in-Anchor.kind c.in-Anchor.is
