use Rattle.std.proofs.Common.{◌≡◌, ◌++◌, ◌<◌, ◌^◌, take}
use Rattle.std.specs.List.{AllWithin, flat_map}
use Rattle.pat_save.specs.Image.{name_bytes}
use Rattle.pat_save.proofs.tables.put_names.Given as goal

abbrev pub invariant-loop-entry : goal.invariant-loop-entry
invariant-loop-entry l =
    (l.out.items ≡ l.initial.out.items ++ flat_map name_bytes (take l.entry-index l.entries))
    × AllWithin (λ entry. entry.group < 2 ^ 16) l.entries 0 l.entry-index
