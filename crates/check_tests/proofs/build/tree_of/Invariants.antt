use Rattle.std.proofs.Common.{◌≤◌, length}
use Rattle.check_tests.specs.Drafts.{IsDraft}
use Rattle.check_tests.proofs.build.tree_of.Given as goal

abbrev pub invariant-loop-at : goal.invariant-loop-at
invariant-loop-at l = record {
  made : IsDraft l.draft l.waiting.items;
  count : length l.draft.nodes ≤ l.at;
}
