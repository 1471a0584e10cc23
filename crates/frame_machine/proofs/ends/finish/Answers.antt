use Rattle.std.proofs.Common.{arith}
use Rattle.frame_parts.proofs.EndTurns.{turn_no_frame}
use Rattle.frame_machine.proofs.ends.finish.Goals as goal

pub returns-clause-on : goal.returns-clause-on
returns-clause-on g c =
    turn_no_frame (g.S.Searchable.searched c.args.on.now) (g.met.S.Searchable.sound c.args.on.now) c.args.spot.now
    c.args.store.now.records c.args.registers.now c.requires.valid _ (omega (arith, c.if-spot-eq0.false)) _
    c.get.ensures c.if-frame-eq-KIND_GROUP_OPEN.false c.if-frame-eq-KIND_TURN_OPEN.false
    c.if-frame-eq-KIND_TURN_OR_EXIT.false c.if-frame-eq-KIND_ATOMIC_OPEN.false c.if-frame-eq-KIND_LOOK_OPEN.false
    c.if-frame-eq-KIND_LOOK_ALL_OPEN.false c.if-frame-eq-KIND_DENIAL_OPEN.false c.if-frame-eq-KIND_LOOK_TEST.false
    c.if-frame-eq-KIND_DENIAL_TEST.false c.if-frame-eq-KIND_CALLED_GROUP.false c.if-frame-eq-KIND_CALL_OPEN.false
