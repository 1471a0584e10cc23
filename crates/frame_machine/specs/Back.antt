-- Back to a record.
use Rattle.std.specs.Prelude.{◌≢◌, ℕ, List, ◌∷◌}
use Rattle.frame_store.specs.declared.records.Record.{Record}
use Rattle.frame_store.specs.declared.kinds.TheConstants.{KIND_LATER_BRANCH, KIND_TURN_OR_EXIT, KIND_LATER_TURN}
use Rattle.frame_store.specs.declared.kinds.TheConstants.{KIND_FEWER_ITEMS, KIND_MORE_ITEMS, KIND_ATOMIC_LEFT}
use Rattle.frame_store.specs.declared.kinds.TheConstants.{KIND_LATER_TRY}
use Rattle.frame_store.specs.Captures.{Captures}
use Rattle.frame_store.specs.Entry.{entries, entry_of}
use Rattle.frame_store.specs.Undo.{taken_back}
use Rattle.frame_state.specs.declared.machine.Next.{Next}
use Rattle.frame_state.specs.declared.machine.Next.TheVariants.{Back}
use Rattle.frame_state.specs.declared.machine.Spot.{Spot}
use Rattle.frame_state.specs.Ground.{Ground}
use Rattle.frame_state.specs.Machine.{conf}
use Rattle.frame_state.specs.Validity.{IsValid, Advances}

-- a record's kind is none of alternatives, of tries, of repeats and of atomic parts
abbrev pub IsOther : ℕ → Type 0
IsOther kind =
    (kind ≢ KIND_LATER_BRANCH) × (kind ≢ KIND_TURN_OR_EXIT) × (kind ≢ KIND_LATER_TURN) × (kind ≢ KIND_FEWER_ITEMS)
    × (kind ≢ KIND_MORE_ITEMS) × (kind ≢ KIND_ATOMIC_LEFT) × (kind ≢ KIND_LATER_TRY)

module _ (c : Ground) where
  -- the record is the newest of a path that has failed
  pub record IsNewest (spot : Spot) (r : Record) : Type 0 where
    pub older : List Record
    pub caps : Captures
    pub valid : IsValid c (conf Back spot (entries (r ∷ older)) caps)

  -- such a path goes on so, whatever lies below the record
  abbrev pub LeadsBack : Record → Spot → Next → Spot → Type 0
  LeadsBack r old next new =
      (older : List Record) (caps : Captures) → IsValid c (conf Back old (entries (r ∷ older)) caps) →
      Advances c (conf Back old (entries (r ∷ older)) caps)
      (conf next new (entries older) (taken_back (entry_of r) caps))
