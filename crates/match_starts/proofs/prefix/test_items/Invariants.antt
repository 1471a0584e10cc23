use Rattle.std.proofs.Common.{◌≡◌, ◌-◌, drop, length}
use Rattle.match_items.specs.Subjects.{IsTextPlace}
use Rattle.match_items.specs.Views.{text_scene}
use Rattle.match_starts.specs.Prefix.{items_tested, row_of}
use Rattle.match_starts.proofs.prefix.test_items.Given as goal

-- the parts that are left tell what all of them do
abbrev pub invariant-parts : goal.invariant-parts
invariant-parts l = record {
  same : items_tested (text_scene l.view l.ready.classes.now) (row_of l.ready.tree.now (drop l.i l.parts))
      l.at ≡ items_tested (text_scene l.view l.ready.classes.now) (row_of l.ready.tree.now l.parts) l.place;
  place : IsTextPlace l.view.options.now l.view.subject.now l.at;
}

abbrev pub decreases-parts : goal.decreases-parts
decreases-parts l = length l.parts - l.i
