use Rattle.std.proofs.Common.{◌-◌, refl, sym, arith}
use Rattle.frame_parts.proofs.EndTurns.{open_sound}
use Rattle.frame_parts.proofs.PassTurns.{next_inside, follows_group}
use Rattle.frame_parts.proofs.passing.after_group.Goals as goal

pub is_capture-requires : goal.is_capture-requires
is_capture-requires g c =
    (open_sound (g.S.Searchable.searched c.args.on.now) (g.met.S.Searchable.sound c.args.on.now) c.args.spot.now
    c.args.store.now.records c.args.registers.now c.requires.valid (c.args.spot.now.frame - 1)
    (omega (arith, c.if-spot-eq0.false)) c.get-frame.result.now c.get-frame.ensures
    (omega (arith, c.if-frame-ne-KIND_GROUP_OPEN.false))).0

pub next-requires : goal.next-requires
next-requires g c = (open_sound (g.S.Searchable.searched c.args.on.now) (g.met.S.Searchable.sound c.args.on.now)
    c.args.spot.now c.args.store.now.records c.args.registers.now c.requires.valid (c.args.spot.now.frame - 1)
    (omega (arith, c.if-spot-eq0.false)) c.get-frame.result.now c.get-frame.ensures
    (omega (arith, c.if-frame-ne-KIND_GROUP_OPEN.false))).0

pub need_of-requires-clause-inside : goal.need_of-requires-clause-inside
need_of-requires-clause-inside g c = next_inside (g.S.Searchable.searched c.args.on.now)
    (g.met.S.Searchable.sound c.args.on.now) c.get-frame.result.now.node c.in-Some.next
    ((open_sound (g.S.Searchable.searched c.args.on.now) (g.met.S.Searchable.sound c.args.on.now) c.args.spot.now
    c.args.store.now.records c.args.registers.now c.requires.valid (c.args.spot.now.frame - 1)
    (omega (arith, c.if-spot-eq0.false)) c.get-frame.result.now c.get-frame.ensures
    (omega (arith, c.if-frame-ne-KIND_GROUP_OPEN.false))).0) _ refl c.in-Some.ensures

pub returns : goal.returns
returns g c =
    follows_group (g.S.Searchable.searched c.args.on.now) (g.met.S.Searchable.sound c.args.on.now)
    c.get-frame.result.now (omega (arith, c.if-frame-ne-KIND_GROUP_OPEN.false)) (c.if-not-is_capture.ensures refl)
    c.in-Some.next (sym c.in-Some.ensures) c.in-Some-need_of.follower.need c.in-Some-need_of.follower.units
    c.in-Some-need_of.ensures.needs
    c.args.spot.now.frame c.args.store.now.records c.args.registers.now (c.args.spot.now.frame - 1)
    (omega (arith, c.if-spot-eq0.false)) c.get-frame.ensures
