use Rattle.std.proofs.Common.{◌≡◌, ◌-◌, length}
use Rattle.pat_save.specs.Reading.{counted_at, gathered}
use Rattle.pat_save.specs.ReadTables.{verb_name_at}
use Rattle.pat_save.proofs.taken_tables.take_verb_names.Given as goal

abbrev pub invariant-loop : goal.invariant-loop
invariant-loop l = record {
  so_far : gathered (λ _. verb_name_at l.utf) (l.count - l.counter) l.draft.verb_names l.rest ≡ counted_at
      (λ _. verb_name_at l.utf) l.bytes;
  others : l.draft ≡ record l.initial.draft { verb_names = l.draft.verb_names };
  many : length l.draft.verb_names ≡ l.counter;
}
