use Rattle.std.proofs.Common.{◌≡◌, ◌≤◌, length}
use Rattle.frame_store.specs.Entry.{entries}
use Rattle.ordered_search.specs.Parts.{is_active}
use Rattle.frame_state.specs.Calls.{calls_at}
use Rattle.frame_looks.proofs.calls.is_active.Given as goal

abbrev pub invariant-calls : goal.invariant-calls
invariant-calls l = record {
  same :
      is_active l.group l.place (calls_at (entries l.store.records) l.height)
      ≡ is_active l.group l.place (calls_at (entries l.store.records) l.frame);
  within : l.height ≤ length l.store.records;
}

abbrev pub decreases-calls : goal.decreases-calls
decreases-calls l = l.height
