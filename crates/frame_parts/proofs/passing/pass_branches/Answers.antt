use Rattle.std.proofs.Common.{◌+◌, refl, sym, arith}
use Rattle.frame_store.specs.Entry.{entries}
use Rattle.frame_parts.proofs.PassTurns.{pass_branch}
use Rattle.frame_state.proofs.ReachTurns.{off_is}
use Rattle.frame_parts.proofs.passing.pass_branches.Goals as goal

pub is_refused-requires-clause-off : goal.is_refused-requires-clause-off
is_refused-requires-clause-off g c = off_is _ (sym c.if-not-is_off.ensures)

pub branches-preserved : goal.branches-preserved
branches-preserved g c = record {
  reached =
      pass_branch (g.S.Searchable.searched c.args.on.now) (g.met.S.Searchable.sound c.args.on.now) _ c.args.at
      c.branches.to c.branches.spot (entries c.args.store.now.records) c.args.registers.now
      c.branches.invariant.reached
      _ c.branches_of-branches.ensures _ c.get.ensures (sym c.if-is_behind.ensures) (c.if-is_refused.ensures refl)
      (c.branches.to + 1) (omega arith) (omega (arith, c.branches-test.true, c.len.ensures)) c.if-spot-gt0.true
      (omega (arith, c.if-spot-unit_limit.false, c.branches.invariant.units, c.unit_limit.ensures));
  units = c.branches.invariant.units;
}
