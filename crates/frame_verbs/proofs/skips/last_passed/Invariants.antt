use Rattle.std.proofs.Common.{◌≡◌, ◌≤◌, length}
use Rattle.frame_store.specs.Entry.{entries}
use Rattle.ordered_search.specs.Parts.{skip_to}
use Rattle.frame_state.specs.Machine.{heard}
use Rattle.frame_verbs.proofs.skips.last_passed.Given as goal

abbrev pub invariant-names : goal.invariant-names
invariant-names g l = record {
  same : skip_to (g.S.Searchable.searched l.on).setting l.name (heard (entries l.store.records) l.height)
      ≡ skip_to (g.S.Searchable.searched l.on).setting l.name (heard (entries l.store.records) l.passed);
  within : l.height ≤ length l.store.records;
}

abbrev pub decreases-names : goal.decreases-names
decreases-names g l = l.height
