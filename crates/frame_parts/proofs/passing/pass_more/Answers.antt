use Rattle.std.proofs.Common.{◌+◌, refl, sym, arith}
use Rattle.frame_parts.proofs.PassTurns.{pass_further}
use Rattle.frame_state.proofs.ReachTurns.{off_is}
use Rattle.frame_parts.proofs.passing.pass_more.Goals as goal

pub after_part-requires-clause-off : goal.after_part-requires-clause-off
after_part-requires-clause-off g c = off_is _ (sym c.if-not-is_off.ensures)

pub runs-preserved : goal.runs-preserved
runs-preserved g c = record {
  reached =
      pass_further (g.S.Searchable.searched c.args.on.now) (g.met.S.Searchable.sound c.args.on.now)
      (off_is _ (sym c.if-not-is_off.ensures)) _ c.args.at c.runs.run.count c.runs.run.to c.runs.spot
      c.args.store.now.records c.args.registers.now c.runs.invariant.reached
      c.in-Some.follower.need c.args.spot.now.frame c.in-Some.follower.units c.in-Some.ensures
      (sym c.runs.invariant.frame) c.most_of-most.result c.most_of-most.ensures (sym c.if-not-is_last.ensures)
      c.runs-test.true
      (omega (arith, c.if-not-has_room.ensures refl, c.runs.invariant.units, c.unit_limit.ensures))
      (c.if-is_missing.ensures refl) c.in-Some-take_further.to c.in-Some-take_further.ensures
      (c.runs.run.count + 1) (omega arith);
  units = c.runs.invariant.units;
  frame = c.runs.invariant.frame;
}
