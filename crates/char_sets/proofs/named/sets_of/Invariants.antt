use Rattle.std.proofs.Common.{◌≡◌, ℕ, take}
use Rattle.std.specs.List.{list_any}
use Rattle.char_sets.specs.Named.{set_in, set_part_has}
use Rattle.char_sets.proofs.named.sets_of.Given as goal

abbrev pub invariant-loop-part : goal.invariant-loop-part
invariant-loop-part l = (c : ℕ) → list_any (λ set. set_in set c) l.sets.items ≡ list_any
    (λ part. set_part_has l.caseless c part) (take l.part-index l.parts)
