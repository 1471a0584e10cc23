use Rattle.std.proofs.Common.{◌≤◌, length, drop, map}
use Rattle.pat_tree.specs.Nested.{trees, tree_at}
use Rattle.pat_check.specs.Survey.{IsSurvey}
use Rattle.pat_check.proofs.survey.survey_of.Given as goal

abbrev pub invariant-loop-i : goal.invariant-loop-i
invariant-loop-i l = record {
  within : l.i ≤ length l.order;
  is : IsSurvey l.tree.classes (map (tree_at (trees l.tree.nodes)) (drop l.i l.order)) l.survey;
}

abbrev pub decreases-loop-i : goal.decreases-loop-i
decreases-loop-i l = l.i
