use Rattle.std.proofs.Common.{◌≡◌, ◌≤◌, length}
use Rattle.frame_store.specs.Entry.{entries}
use Rattle.frame_state.specs.Calls.{calls_at}
use Rattle.frame_looks.proofs.calls.latest_call.Given as goal

abbrev pub invariant-frames : goal.invariant-frames
invariant-frames l = record {
  same : calls_at (entries l.store.records) l.height ≡ calls_at (entries l.store.records) l.frame;
  within : l.height ≤ length l.store.records;
  low : l.height ≤ l.frame;
}

abbrev pub decreases-frames : goal.decreases-frames
decreases-frames l = l.height
