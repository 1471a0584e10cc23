use Rattle.std.proofs.Common.{◌≡◌, ◌-◌, length}
use Rattle.pat_save.specs.Reading.{counted_at, gathered}
use Rattle.pat_save.specs.ReadTables.{class_at}
use Rattle.pat_save.proofs.taken_tables.take_classes.Given as goal

abbrev pub invariant-loop : goal.invariant-loop
invariant-loop l = record {
  so_far : gathered (λ _. class_at l.utf) (l.count - l.counter) l.draft.classes l.rest ≡ counted_at
      (λ _. class_at l.utf) l.bytes;
  others : l.draft ≡ record l.initial.draft { classes = l.draft.classes };
  many : length l.draft.classes ≡ l.counter;
}
