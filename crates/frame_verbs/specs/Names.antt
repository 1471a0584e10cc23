-- What a name leaves, if there is one.
use Rattle.std.specs.Prelude.{ℕ, suc, ◌+◌, ◌≤◌, List, [], ◌∷◌, length, Option, Some, None}
use Rattle.frame_store.specs.declared.records.Record.{Record}
use Rattle.frame_store.specs.declared.kinds.TheConstants.{KIND_SKIP_PASSED}
use Rattle.frame_store.specs.Entry.{Entry, MarkPassed}
use Rattle.ordered_search.specs.Stream.{Ending, exhausted, by_verb, skip}
use Rattle.frame_state.specs.declared.machine.Met.{Met}
use Rattle.frame_state.specs.declared.machine.Spot.{Spot}
use Rattle.frame_state.specs.Machine.{kept_at, entry_kept}
use Rattle.frame_state.specs.Stops.{record_at}

-- what was met: the last name, kept as one more
abbrev pub named_last : Met → Option ℕ → Met
named_last last None = last
named_last last (Some n) = record last { name = n + 1 }

-- its record, which has the name for its mark
abbrev pub named_entry : Spot → ℕ → Option ℕ → Entry
named_entry spot q None = MarkPassed (record { node = q; link = spot.frame }) (kept_at spot)
named_entry spot q (Some n) = MarkPassed (record { node = q; link = spot.frame })
    (kept_at (record spot { mark = n + 1 }))

-- and the path after it, over so many records
abbrev pub named_spot : Spot → ℕ → Option ℕ → Spot
named_spot spot height None = record spot { units = spot.units + 1 }
named_spot spot height (Some n) =
    record spot { mark = n + 1; last = record spot.last { name = n + 1 }; passed = suc height; units = spot.units + 1 }

-- the path at a name that SKIP doesn't look for
abbrev pub met : Spot → Option ℕ → Spot
met spot None = spot
met spot (Some n) = record spot { mark = n + 1; last = record spot.last { name = n + 1 } }

-- The names that SKIP looks for.

-- each is told of by a record below
abbrev pub AreHeard : List Entry → Type 0
AreHeard [] = Unit {0}
AreHeard (r ∷ below) = ((entry_kept r).passed ≤ length below) × AreHeard below

-- what SKIP of a name ends with, which was last passed at this place, if it was
abbrev pub skip_by : Option ℕ → Ending
skip_by None = exhausted
skip_by (Some p) = by_verb (skip p)

-- and its record
abbrev pub skip_record : Spot → ℕ → Option ℕ → Record
skip_record spot q None = record_at spot KIND_SKIP_PASSED q 0 1 spot.place
skip_record spot q (Some p) = record_at spot KIND_SKIP_PASSED q 0 0 p
