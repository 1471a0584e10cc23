use Rattle.std.proofs.Common.{◌≡◌, ◌++◌, take}
use Rattle.std.specs.List.{AllWithin, flat_map}
use Rattle.pat_save.specs.Image.{record_bytes}
use Rattle.pat_save.specs.Sized.{IsSized}
use Rattle.pat_save.proofs.writing.whole_image.Given as goal

abbrev pub invariant-loop-saved : goal.invariant-loop-saved
invariant-loop-saved l =
    (l.out.items ≡ l.initial.out.items ++ flat_map record_bytes (take l.saved-index l.patterns))
    × AllWithin (λ s. IsSized s.tree) l.patterns 0 l.saved-index
