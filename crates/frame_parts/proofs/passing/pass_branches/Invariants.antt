use Rattle.std.proofs.Common.{◌≡◌}
use Rattle.frame_store.specs.Entry.{entries}
use Rattle.frame_state.specs.declared.machine.Next.TheVariants.{Branch}
use Rattle.frame_state.specs.Machine.{conf}
use Rattle.frame_parts.specs.Passing.{Reaches}
use Rattle.frame_parts.proofs.passing.pass_branches.Given as goal

abbrev pub invariant-branches : goal.invariant-branches
invariant-branches g l = record {
  reached : Reaches (g.S.Searchable.searched l.on)
      (conf (Branch l.at l.index) l.fn.spot (entries l.store.records) l.registers)
      (conf (Branch l.at l.to) l.spot (entries l.store.records) l.registers);
  units : l.spot.units ≡ l.fn.spot.units;
}

abbrev pub decreases-branches : goal.decreases-branches
decreases-branches g l = l.spot.left
