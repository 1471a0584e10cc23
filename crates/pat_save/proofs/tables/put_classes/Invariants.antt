use Rattle.std.proofs.Common.{◌≡◌, ◌++◌, take, All}
use Rattle.std.specs.List.{AllWithin, flat_map}
use Rattle.pat_save.specs.Image.{class_bytes}
use Rattle.pat_save.specs.Sized.{IsSizedPart}
use Rattle.pat_save.proofs.tables.put_classes.Given as goal

abbrev pub invariant-loop-id : goal.invariant-loop-id
invariant-loop-id l = (l.out.items ≡ l.initial.out.items ++ flat_map class_bytes (take l.id l.tree.classes))
    × AllWithin (λ spec. All IsSizedPart spec.parts) l.tree.classes 0 l.id
