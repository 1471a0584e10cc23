use Rattle.std.proofs.Common.{◌≡◌, ◌-◌, drop, length}
use Rattle.match_items.specs.Views.{text_scene}
use Rattle.match_starts.specs.Prefix.{tested, row_of}
use Rattle.match_starts.proofs.prefix.test_branches.Given as goal

-- the branches that are left tell what all of them do
abbrev pub invariant-branches : goal.invariant-branches
invariant-branches l = record {
  same : tested (text_scene l.view l.ready.classes.now) (row_of l.ready.tree.now (drop l.i l.branches))
      l.place ≡ tested (text_scene l.view l.ready.classes.now) (row_of l.ready.tree.now l.branches) l.place;
}

abbrev pub decreases-branches : goal.decreases-branches
decreases-branches l = length l.branches - l.i
