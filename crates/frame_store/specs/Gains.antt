-- What the undo records of a stretch of a store give back, all at once.
use Rattle.std.specs.Prelude.{◌≡◌, ℕ, ◌-◌, ◌<◌, ◌≤◌, List, [], ◌∷◌, length, take, drop, reverse, Option, Some, None}
use Rattle.std.specs.Prelude.{slice_index_or, slice_set}
use Rattle.frame_store.specs.declared.registers.Span.{Span}
use Rattle.frame_store.specs.declared.records.Record.{Record}
use Rattle.frame_store.specs.declared.gains.Gains.{Gains}
use Rattle.frame_store.specs.Captures.{Captures}
use Rattle.frame_store.specs.Entry.{Entry, Undo, entries}
use Rattle.frame_store.specs.Undo.{undone}

-- for each register the value, where it is given one
abbrev pub Values : Type 0
Values = List (Option (Option Span))

-- the registers with these values in place
unfoldable pub overlaid : Values → Captures → Captures
overlaid [] caps = caps
overlaid (v ∷ vs) [] = []
overlaid (None ∷ vs) (x ∷ xs) = x ∷ overlaid vs xs
overlaid (Some v ∷ vs) (x ∷ xs) = v ∷ overlaid vs xs

-- the value that stands already, or else this
abbrev pub first_of : Option (Option Span) → Option Span → Option Span
first_of None old = old
first_of (Some v) old = v

-- the values with those of an event before the others: of two values the older one counts
abbrev pub older_gain : Entry → Values → Values
older_gain (Undo at slot old) vs = slice_set vs (slot - 1) (Some old)
older_gain _ vs = vs

-- the values with those of an event after the others
abbrev pub newer_gain : Entry → Values → Values
newer_gain (Undo at slot old) vs = slice_set vs (slot - 1) (Some (first_of (slice_index_or vs (slot - 1) None) old))
newer_gain _ vs = vs

-- these events give back these values, whatever the registers hold
abbrev pub IsGathered : Values → List Entry → Type 0
IsGathered vs es = (caps : Captures) → length caps ≡ length vs → undone es caps ≡ overlaid vs caps

-- the events of the records from one height to another, of which the oldest stands first
abbrev pub stretch : (low high : ℕ) → List Record → List Entry
stretch low high records = entries (reverse (drop low (take high records)))

-- they are those of a stretch of these records, if of any
abbrev pub IsOf : Gains → List Record → Type 0
IsOf g records =
    (g.high ≤ length records) × (0 < g.high → (g.low ≤ g.high) × IsGathered g.values.items
    (stretch g.low g.high records))

-- they are those of a stretch that begins at a height or past it
pub record IsBegun (g : Gains) (to : ℕ) (records : List Record) : Type 0 where
  pub least : to ≤ g.low
  pub ordered : g.low ≤ g.high
  pub most : g.high ≤ length records
  pub gathered : IsGathered g.values.items (stretch g.low g.high records)

-- a height is forgotten that is past the oldest `to` records
abbrev pub IsForgotten : (old to new : ℕ) → Type 0
IsForgotten old to new = (old ≤ to → new ≡ old) × (to < old → new ≡ 0)
