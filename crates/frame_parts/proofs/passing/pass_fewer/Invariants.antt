use Rattle.std.proofs.Common.{◌≡◌}
use Rattle.frame_store.specs.Entry.{entries}
use Rattle.frame_state.specs.declared.machine.Next.TheVariants.{Fewer}
use Rattle.frame_state.specs.Machine.{conf}
use Rattle.frame_parts.specs.Passing.{Reaches}
use Rattle.frame_parts.proofs.passing.pass_fewer.Given as goal

abbrev pub invariant-runs : goal.invariant-runs
invariant-runs g l = record {
  reached : Reaches (g.S.Searchable.searched l.on)
      (conf (Fewer l.at l.least l.last) l.fn.spot (entries l.store.records) l.registers)
      (conf (Fewer l.at l.least l.to) l.spot (entries l.store.records) l.registers);
  units : l.spot.units ≡ l.fn.spot.units;
  frame : l.spot.frame ≡ l.fn.spot.frame;
}

abbrev pub decreases-runs : goal.decreases-runs
decreases-runs g l = l.spot.left
