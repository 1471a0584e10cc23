use Rattle.std.proofs.Common.{◌≡◌, ◌-◌, length}
use Rattle.pat_tree.specs.Names.{AreInOrder}
use Rattle.pat_save.specs.Reading.{counted_at, gathered}
use Rattle.pat_save.specs.ReadTables.{name_after}
use Rattle.pat_save.proofs.taken_tables.take_names.Given as goal

abbrev pub invariant-loop : goal.invariant-loop
invariant-loop l = record {
  so_far : gathered (name_after) (l.count - l.counter) l.draft.names l.rest ≡ counted_at (name_after) l.bytes;
  others : l.draft ≡ record l.initial.draft { names = l.draft.names };
  many : length l.draft.names ≡ l.counter;
  ordered : AreInOrder l.draft.names;
}
