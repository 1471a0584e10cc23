use Rattle.std.proofs.Common.{◌≡◌, ◌-◌}
use Rattle.pat_save.specs.Checked.{IsRising}
use Rattle.pat_save.specs.Reading.{gathered, group_after, groups_at}
use Rattle.pat_save.proofs.taking.take_groups.Given as goal

abbrev pub invariant-loop : goal.invariant-loop
invariant-loop l = record {
  so_far : gathered group_after (l.count - l.counter) l.groups.items l.rest ≡ groups_at l.bytes;
  rising : IsRising l.groups.items;
}
