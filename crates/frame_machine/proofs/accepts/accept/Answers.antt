use Rattle.std.proofs.Common.{IfErr, refl, sym, ap, subst, arith}
use Rattle.frame_state.specs.Stops.{Told, tells, IsStop}
use Rattle.frame_state.proofs.Advance.{advance_same}
use Rattle.frame_state.proofs.MostOf.{ok_more}
use Rattle.frame_machine.proofs.AcceptTurns.{as_end, valid_end}
use Rattle.frame_machine.proofs.accepts.accept.Goals as goal

pub finish-requires : goal.finish-requires
finish-requires g c = record {
  valid = valid_end (g.S.Searchable.searched c.args.on.now)
      (g.met.S.Searchable.sound c.args.on.now) c.args.spot.now c.args.store.now.records c.args.registers.now
      c.requires.valid _ (omega (arith, c.if-spot-eq0.false)) _ c.get.ensures;
  bank = c.requires.bank;
}

pub returns-clause-on : goal.returns-clause-on
returns-clause-on g c =
    ok_more _ _ c.finish.result
    (λ x a. advance_same (g.S.Searchable.searched c.args.on.now) _ _ _
    (as_end (g.S.Searchable.searched c.args.on.now) (g.met.S.Searchable.sound c.args.on.now) c.args.spot.now
    c.args.store.now.records c.args.registers.now c.requires.valid _ (omega (arith, c.if-spot-eq0.false)) _
    c.get.ensures c.if-frame-eq-KIND_GROUP_OPEN.false c.if-frame-eq-KIND_CALLED_GROUP.false
    c.if-frame-eq-KIND_TURN_OPEN.false c.if-frame-eq-KIND_TURN_OR_EXIT.false
    c.if-frame-eq-KIND_ATOMIC_OPEN.false) refl a)
    c.finish.ensures.on

pub returns-clause-stop : goal.returns-clause-stop
returns-clause-stop g c =
    subst (λ (t : Told). IfErr c.finish.result (λ stop. IsStop stop c.finish.new.spot c.finish.new.registers t))
    (sym (ap (tells (g.S.Searchable.searched c.args.on.now).setting c.args.spot.now)
    (as_end (g.S.Searchable.searched c.args.on.now) (g.met.S.Searchable.sound c.args.on.now) c.args.spot.now
    c.args.store.now.records c.args.registers.now c.requires.valid _ (omega (arith, c.if-spot-eq0.false)) _
    c.get.ensures c.if-frame-eq-KIND_GROUP_OPEN.false c.if-frame-eq-KIND_CALLED_GROUP.false
    c.if-frame-eq-KIND_TURN_OPEN.false c.if-frame-eq-KIND_TURN_OR_EXIT.false
    c.if-frame-eq-KIND_ATOMIC_OPEN.false)))
    c.finish.ensures.stop
