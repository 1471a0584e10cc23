use Rattle.std.proofs.Common.{◌≡◌, ◌-◌}
use Rattle.pat_save.specs.Reading.{gathered}
use Rattle.pat_save.specs.ReadImage.{record_at, records_at}
use Rattle.pat_save.proofs.reading.take_records.Given as goal

abbrev pub invariant-loop : goal.invariant-loop
invariant-loop l = gathered (λ _. record_at) (l.count - l.counter) l.list l.rest ≡ records_at l.bytes
