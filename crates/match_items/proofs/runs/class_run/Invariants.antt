use Rattle.std.proofs.Common.{◌≡◌, ◌+◌, ◌-◌, false, get_or}
use Rattle.byte_lanes.specs.Places.{Nowhere}
use Rattle.char_sets.specs.Table.{table_has}
use Rattle.match_items.proofs.runs.class_run.Given as goal

abbrev pub invariant-loop-i : goal.invariant-loop-i
invariant-loop-i g l = record {
  before : Nowhere (λ k. table_has l.classes l.class (get_or l.bytes k 0) ≡ false) l.from l.i;
  tests : l.steps ≡ l.initial.steps + (l.i - l.from);
}
