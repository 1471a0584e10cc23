-- What the tests of items tell the machine.
use Rattle.std.specs.Prelude.{ℕ, Option, Some, None}
use Rattle.match_items.specs.declared.view.Taken.{Taken}
use Rattle.match_items.specs.declared.view.Taken.TheVariants.{Took, No, AtEnd}

-- the place after what was taken
abbrev pub place_in : Taken → Option ℕ
place_in (Took p) = Some p
place_in No = None
place_in AtEnd = None
