use Rattle.std.proofs.Common.{◌≡◌, ◌++◌, take}
use Rattle.std.specs.List.{AllWithin, flat_map}
use Rattle.pat_save.specs.Image.{part_bytes}
use Rattle.pat_save.specs.Sized.{IsSizedPart}
use Rattle.pat_save.proofs.tables.put_parts.Given as goal

abbrev pub invariant-loop-part : goal.invariant-loop-part
invariant-loop-part l = (l.out.items ≡ l.initial.out.items ++ flat_map part_bytes (take l.part-index l.parts))
    × AllWithin IsSizedPart l.parts 0 l.part-index
