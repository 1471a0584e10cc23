use Rattle.std.proofs.Common.{◌≡◌, true, ◌≤◌, ◌+◌, ◌*◌, length}
use Rattle.pat_check.specs.Size.{whole_size}
use Rattle.dfa_graph.specs.Building.{tree_of}
use Rattle.dfa_graph.specs.Served.{has_graph}
use Rattle.dfa_graph.proofs.Building.{Building}
use Rattle.dfa_graph.proofs.Costs.{Can}
use Rattle.dfa_paths.specs.Plain.{is_plain}
use Rattle.dfa_graph.proofs.Takers.{IsBounded}
use Rattle.dfa_graph.proofs.Plain.{IsPlainBuild}
use Rattle.dfa_graph.proofs.build.place_tree.Given as goal

abbrev pub invariant-tasks : goal.invariant-tasks
invariant-tasks l = record {
  building : Building l.tree.nodes l.tree.root (length l.tree.classes) l.draft.nodes l.draft.tasks;
  few : length l.draft.nodes + 3 * l.left ≤ 1047002;
  can : whole_size (tree_of l.tree.nodes l.tree.root) ≤ 65536 →
      has_graph (tree_of l.tree.nodes l.tree.root) ≡ true →
      Can l.tree.nodes l.left l.draft.tasks;
  bounded : IsBounded l.tree.nodes (whole_size (tree_of l.tree.nodes l.tree.root)) l.draft.nodes
      l.draft.tasks;
  plain : is_plain (tree_of l.tree.nodes l.tree.root) ≡ true →
      IsPlainBuild l.tree.nodes l.draft.nodes l.draft.tasks;
}

abbrev pub decreases-tasks : goal.decreases-tasks
decreases-tasks l = l.left
