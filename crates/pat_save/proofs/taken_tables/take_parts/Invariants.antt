use Rattle.std.proofs.Common.{◌≡◌, ◌-◌}
use Rattle.pat_save.specs.Reading.{counted_at, gathered}
use Rattle.pat_save.specs.ReadTables.{part_at}
use Rattle.pat_save.proofs.taken_tables.take_parts.Given as goal

abbrev pub invariant-loop : goal.invariant-loop
invariant-loop l =
    gathered (λ _. part_at l.utf) (l.count - l.counter) l.parts.items l.rest ≡ counted_at (λ _. part_at l.utf) l.bytes
