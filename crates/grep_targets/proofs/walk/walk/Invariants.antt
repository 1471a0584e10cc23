use Rattle.std.proofs.Common.{◌≡◌, ◌≤◌, true, map, string_bytes}
use Rattle.grep_targets.specs.Filters.{filter_in}
use Rattle.grep_targets.specs.Targets.{as_item, directory_targets, item_targets}
use Rattle.grep_targets.specs.Walks.{pending_parts, stack_weight, HasCauses}
use Rattle.grep_targets.specs.Stands.{AreOfDirectory, AreOfItem}
use Rattle.grep_targets.proofs.Standing.{Gone}
use Rattle.grep_targets.proofs.Walking.{Going}
use Rattle.grep_targets.proofs.walk.walk.Given as goal

abbrev pub invariant-item : goal.invariant-item
invariant-item g l = record {
  going : Going (filter_in l.filter) (g.F.FileSet.tells l.initial.files).contents
      (λ set. item_targets (filter_in l.filter) (directory_targets (filter_in l.filter) set l.levels)
      (as_item (string_bytes l.fn.path) true))
      l.initial.told l.told (map pending_parts l.stack.items);
  gone : Gone (filter_in l.filter) (AreOfItem (filter_in l.filter) (AreOfDirectory (filter_in l.filter) l.levels)
      (as_item (string_bytes l.fn.path) true))
      l.initial.told l.told (map pending_parts l.stack.items);
  causes : HasCauses l.initial.told l.told (g.F.FileSet.tells l.initial.files).faults
      (g.F.FileSet.tells l.files).faults;
  same : (g.F.FileSet.tells l.files).contents ≡ (g.F.FileSet.tells l.initial.files).contents;
  later : (g.F.FileSet.tells l.initial.files).faults ≤ (g.F.FileSet.tells l.files).faults;
}

abbrev pub decreases-item : goal.decreases-item
decreases-item g l = stack_weight (map pending_parts l.stack.items)
