use Rattle.std.proofs.Common.{◌≡◌, ◌≤◌}
use Rattle.frame_store.specs.Entry.{entries}
use Rattle.frame_store.specs.Stack.{up_to}
use Rattle.frame_state.specs.Frames.{began}
use Rattle.frame_state.specs.Validity.{IsContained}
use Rattle.frame_verbs.proofs.catches.began.Given as goal

abbrev pub invariant-records : goal.invariant-records
invariant-records g l = record {
  same :
      began (g.S.Searchable.searched l.on) (up_to l.height (entries l.store.records)) l.frame l.branch l.began
      ≡ began (g.S.Searchable.searched l.on) (up_to l.top (entries l.store.records)) l.frame l.branch l.top;
  above : l.frame ≤ l.height;
  within : l.height ≤ l.top;
  contained : IsContained l.frame (up_to l.height (entries l.store.records));
}

abbrev pub decreases-records : goal.decreases-records
decreases-records g l = l.height
