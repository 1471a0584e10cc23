use Rattle.std.proofs.Common.{◌≡◌, ◌≤◌, length}
use Rattle.frame_store.specs.Entry.{entries}
use Rattle.frame_store.specs.Stack.{up_to}
use Rattle.frame_verbs.specs.Catching.{left_height}
use Rattle.frame_state.specs.Ground.{IsPart}
use Rattle.frame_state.specs.Validity.{IsContained}
use Rattle.frame_verbs.proofs.catches.left_height.Given as goal

abbrev pub invariant-frames : goal.invariant-frames
invariant-frames g l = record {
  same :
      left_height (g.S.Searchable.searched l.on) (up_to l.top (entries l.store.records)) l.frame l.part
      ≡ left_height (g.S.Searchable.searched l.on) (entries l.store.records) l.spot.frame l.at;
  part : IsPart (g.S.Searchable.searched l.on) l.part;
  above : l.frame ≤ l.top;
  within : l.top ≤ length l.store.records;
  contained : IsContained l.frame (up_to l.top (entries l.store.records));
}

abbrev pub decreases-frames : goal.decreases-frames
decreases-frames g l = l.top
