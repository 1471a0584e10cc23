use Rattle.std.proofs.Common.{◌≤◌, length}
use Rattle.machine_tests.specs.Made.{IsMade}
use Rattle.machine_tests.proofs.trees.tree_of.Given as goal

abbrev pub invariant-loop-step : goal.invariant-loop-step
invariant-loop-step l = record {
  made : IsMade l.draft l.waiting.items;
  count : length l.draft.nodes ≤ l.step-index;
}
