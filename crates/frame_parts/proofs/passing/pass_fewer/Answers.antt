use Rattle.std.proofs.Common.{refl, sym, arith}
use Rattle.frame_parts.proofs.PassTurns.{pass_run, pass_runs}
use Rattle.frame_state.proofs.ReachTurns.{off_is}
use Rattle.frame_parts.proofs.passing.pass_fewer.Goals as goal

pub after_part-requires-clause-off : goal.after_part-requires-clause-off
after_part-requires-clause-off g c = off_is _ (sym c.if-not-is_off.ensures)

pub runs-preserved : goal.runs-preserved
runs-preserved g c = record {
  reached =
      rw c.before-to.ensures
      (pass_run (g.S.Searchable.searched c.args.on.now) (g.met.S.Searchable.sound c.args.on.now) _ c.args.at
      c.args.least c.runs.to c.runs.spot c.args.store.now.records c.args.registers.now c.runs.invariant.reached
      c.in-Some.follower.need c.args.spot.now.frame c.in-Some.follower.units c.in-Some.ensures
      (sym c.runs.invariant.frame) (omega (arith, c.runs-test.true, c.max-nearest.ensures)) c.if-spot-gt0.true
      (omega (arith, c.if-not-has_room.ensures refl, c.runs.invariant.units, c.unit_limit.ensures))
      (c.if-is_missing.ensures refl));
  units = c.runs.invariant.units;
  frame = c.runs.invariant.frame;
}

pub returns-then-to-far : goal.returns-then-to-far
returns-then-to-far g c =
    pass_runs (g.S.Searchable.searched c.args.on.now) (g.met.S.Searchable.sound c.args.on.now) _ c.args.at
    c.args.least c.args.store.now.records c.args.registers.now c.in-Some.follower.need c.args.spot.now.frame
    c.in-Some.follower.units
    c.in-Some.ensures c.last_far-far.result c.last_far-far.ensures c.runs.to _ c.runs.spot _ c.runs.invariant.reached
    (sym c.runs.invariant.frame) c.if-to-far.true
    (omega (arith, c.if-not-has_room.ensures refl, c.runs.invariant.units, c.unit_limit.ensures)) c.pass_all.ensures
