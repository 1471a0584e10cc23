use Rattle.std.proofs.Common.{◌+◌, ◌-◌, ◌≤◌}
use Rattle.match_items.specs.Subjects.{IsTextPlace}
use Rattle.match_items.specs.Views.{text_scene, maximum}
use Rattle.match_items.proofs.TextRuns.{IsAlong}
use Rattle.match_items.proofs.walks.text_walk.Given as goal

abbrev pub invariant-loop-count : goal.invariant-loop-count
invariant-loop-count g l = record {
  place : IsTextPlace l.view.options.now l.view.subject.now l.to;
  most : l.count ≤ l.max;
  later : l.initial.steps ≤ l.steps;
  few : l.steps ≤ l.initial.steps + l.count;
  along : IsAlong (text_scene l.view l.classes) l.item (maximum l.max) l.at l.count l.to (l.steps - l.initial.steps);
}

abbrev pub decreases-loop-count : goal.decreases-loop-count
decreases-loop-count g l = l.max - l.count
