-- Runs of the bytes of a set, from places of other bytes on.
use Rattle.std.specs.Prelude.{◌≡◌, ◌<◌, ◌≤◌, ◌+◌, ℕ, Bool, false, List, length, slice_index}
use Rattle.byte_lanes.specs.Sets.{has_byte, IsIn}

-- no byte of the set stands there: another one does, or the bytes end
abbrev pub IsOutside : List Bool → List ℕ → ℕ → Type 0
IsOutside set bytes k = k < length bytes → has_byte set (slice_index bytes k) ≡ false

-- fewer bytes of the set than these stand from the place on
pub record IsShort (set : List Bool) (bytes : List ℕ) (least k : ℕ) : Type 0 where
  pub stop : ℕ
  pub low : k ≤ stop
  pub near : stop < k + least
  pub outside : IsOutside set bytes stop

-- behind so many of those that stand from the place on none of the ends stands, nor behind more
pub record IsOpen (set ends : List Bool) (bytes : List ℕ) (least k : ℕ) : Type 0 where
  pub stop : ℕ
  pub low : k ≤ stop
  pub outside : IsOutside set bytes stop
  pub none : (i : ℕ) → k + least ≤ i → i ≤ stop → i < length bytes → ¬ IsIn ends bytes i
