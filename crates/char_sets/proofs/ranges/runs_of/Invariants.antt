use Rattle.std.proofs.Common.{◌≡◌, ℕ, take}
use Rattle.std.specs.List.{list_any}
use Rattle.char_sets.specs.Runs.{runs_have, range_part_has}
use Rattle.char_sets.proofs.ranges.runs_of.Given as goal

abbrev pub invariant-loop-part : goal.invariant-loop-part
invariant-loop-part l = (c : ℕ) → runs_have l.runs.items c ≡ list_any (λ part. range_part_has l.utf l.caseless c part)
    (take l.part-index l.parts)
