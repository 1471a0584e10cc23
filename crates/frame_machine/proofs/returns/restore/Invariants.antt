use Rattle.std.proofs.Common.{◌≡◌, ◌≤◌, ◌+◌, max, drop, length}
use Rattle.frame_store.specs.Entry.{entries, site_of}
use Rattle.frame_store.specs.Stack.{room}
use Rattle.ordered_search.specs.Stream.{changes}
use Rattle.frame_state.specs.Calls.{AreRestored, trail}
use Rattle.frame_machine.proofs.returns.restore.Given as goal

abbrev pub invariant-groups : goal.invariant-groups
invariant-groups l = record {
  restored :
      AreRestored (site_of l.frame) l.entry l.group (trail l.fn.registers (entries l.fn.store.records))
      (trail l.registers (entries l.store.records));
  spot :
      l.spot ≡ record l.fn.spot {
        units = l.fn.spot.units + changes (drop l.group l.fn.registers) (drop l.group l.entry);
      };
  few : l.spot.units ≤ l.limit;
  within : l.group ≤ length l.entry;
  peak : l.store.peak ≤ max l.fn.store.peak l.limit;
  no_less : room l.fn.store ≤ room l.store;
}

abbrev pub decreases-groups : goal.decreases-groups
decreases-groups l = l.group
