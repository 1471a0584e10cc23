use Rattle.std.proofs.Common.{◌≡◌, ◌≤◌, length}
use Rattle.frame_store.specs.Entry.{entries}
use Rattle.frame_verbs.specs.Catching.{catcher}
use Rattle.frame_verbs.proofs.catches.catcher.Given as goal

abbrev pub invariant-frames : goal.invariant-frames
invariant-frames l = record {
  same : catcher (entries l.store.records) l.height ≡ catcher (entries l.store.records) l.frame;
  within : l.height ≤ length l.store.records;
}

abbrev pub decreases-frames : goal.decreases-frames
decreases-frames l = l.height
