-- Calls of groups: the calls that are active in a frame, the part that a call runs, and captures that a call gives
-- back.
use Rattle.std.specs.Prelude.{◌≡◌, ◌<◌, ◌≤◌, ℕ, suc, ◌+◌, ◌-◌, List, [], ◌∷◌, All, length, drop, Option, Some, None}
use Rattle.std.specs.Prelude.{nat_eq, slice_index_or, if◌then◌else◌}
use Rattle.pat_tree.specs.Nested as tree
use Rattle.pat_tree.specs.Nested.{Nested}
use Rattle.pat_tree.specs.Groups.{group_of}
use Rattle.frame_store.specs.declared.records.Record.{Record}
use Rattle.frame_store.specs.Captures.{Captures}
use Rattle.frame_store.specs.Entry.{Site, Entry, CallOpen}
use Rattle.frame_state.specs.declared.machine.Spot.{Spot}
use Rattle.frame_state.specs.declared.machine.Stop.{Stop}
use Rattle.frame_state.specs.declared.machine.Stop.TheVariants as stop
use Rattle.ordered_search.specs.Stream.{changes}
use Rattle.ordered_search.specs.Moves.{Moves, size}
use Rattle.ordered_search.specs.Paths.{paths, pauses}
use Rattle.frame_state.specs.Ground.{Ground, tree_of, IsPart}
use Rattle.frame_state.specs.Machine.{link_of, kept_at, Conf}
use Rattle.frame_state.specs.Frames.{around, around_at, outside, hand, fail, Agrees, spot_state, ahead}
use Rattle.frame_state.specs.Validity.{IsContained, IsLater, IsStanding, AreSpans, AreSound, IsValid}
use Rattle.frame_state.specs.Stops.{tells}

-- Active calls.

abbrev pub calls_with : Entry → List (ℕ × ℕ) → List (ℕ × ℕ)
calls_with (CallOpen at kept group last) calls = (group, kept.place) ∷ calls
calls_with _ calls = calls

-- the calls that are active in the frame at a height, (group, place), the latest one first
unfoldable pub calls_at : List Entry → ℕ → List (ℕ × ℕ)
calls_at [] l = []
calls_at (r ∷ below) l =
    if nat_eq l (suc (length below)) then calls_with r (calls_at below (link_of r)) else calls_at below l

-- no call among these began past a place
abbrev pub AreWithin : ℕ → List (ℕ × ℕ) → Type 0
AreWithin last calls = All (λ (x : ℕ × ℕ). x.1 ≤ last) calls

abbrev pub Bounds : Entry → List (ℕ × ℕ) → Type 0
Bounds (CallOpen at kept group last) calls = AreWithin last ((group, kept.place) ∷ calls)
Bounds _ calls = Unit {0}

-- each frame is around the later ones, and no call began past the place that its record tells
abbrev pub AreNested : List Entry → Type 0
AreNested [] = Unit {0}
AreNested (r ∷ below) = (link_of r ≤ length below) × Bounds r (calls_at below (link_of r)) × AreNested below

-- the latest call that is active in the frame at a height
abbrev pub IsLatest : List Entry → ℕ → Option Record → Type 0
IsLatest stack l None = calls_at stack l ≡ []
IsLatest stack l (Some r) =
    (calls_at stack l ≡ (r.slot, r.place) ∷ calls_at stack r.link) × (r.link < l)
    × AreWithin r.from ((r.slot, r.place) ∷ calls_at stack r.link)

-- The part that is called.

-- nothing follows it, and it's in no lookbehind, or it's a capturing group, which ends its frame
abbrev pub EndsAlone : Ground → ℕ → Nested → Type 0
EndsAlone c q (tree.group (Some n) ts) = Unit {0}
EndsAlone c q _ = (c.rest q ≡ []) × (c.look_branch q ≡ None)

pub record IsCallee (c : Ground) (q : ℕ) : Type 0 where
  pub inside : IsPart c q
  pub alone : EndsAlone c q (tree_of c q)

-- the part that a call of a number runs, if there is one
abbrev pub IsCalled : Ground → ℕ → Option ℕ → Type 0
IsCalled c n None = group_of c.setting.whole n ≡ None
IsCalled c n (Some q) = (group_of c.setting.whole n ≡ Some (tree_of c q)) × IsCallee c q

-- what a call leaves that begins here, and where the path goes on, over so many records
abbrev pub call_entry : Spot → ℕ → ℕ → ℕ → Entry
call_entry spot q group last = CallOpen (record { node = q; link = spot.frame }) (kept_at spot) group last

abbrev pub call_spot : Spot → ℕ → Spot
call_spot spot height = record spot { frame = suc height; units = spot.units + 1; left = spot.left - 1 }

module _ (c : Ground) where
  -- what is ahead where a part is run in the frame of its call
  abbrev pub called_ahead : ℕ → Spot → List Entry → Captures → Moves
  called_ahead q spot stack caps =
      paths c.setting (around c stack spot.frame).depth (tree_of c q) (spot_state c spot stack caps)
      (outside c stack caps spot.frame).follow (fail c stack caps) (hand c stack caps spot.frame q)

  -- the path stands where that is so
  pub record IsCalling (spot : Spot) (stack : List Entry) (caps : Captures) : Type 0 where
    pub standing : IsStanding c spot.left spot.frame (kept_at spot) (around c stack spot.frame).depth stack
    pub records : AreSound c spot.left (length caps) stack
    pub spans : AreSpans c caps
    pub slots : length caps ≡ c.setting.groups
    -- in the call's own frame, which was just opened
    pub fresh : spot.frame ≡ length stack

  -- the machine goes on with what is ahead of a path
  pub record GoesOn (spot : Spot) (x : Moves) (n : Conf) : Type 0 where
    pub answer : tells c.setting spot x ≡ tells c.setting n.spot (ahead c n)
    pub shorter : size (ahead c n) ≤ size x
    pub valid : IsValid c n

-- Captures that are given back.

-- why a call isn't left
abbrev pub IsReturnStop : Stop → ℕ → ℕ → Type 0
IsReturnStop stop.FrameLimit limit units = limit < units
IsReturnStop stop.Memory limit units = Unit {0}
IsReturnStop _ limit units = ⊥

-- the registers, and the records behind them
pub record Trail : Type 0 where
  pub caps : Captures
  pub stack : List Entry

abbrev pub trail : Captures → List Entry → Trail
trail caps stack = record { caps = caps; stack = stack }

-- All registers but the first i hold what `entry` says. Each that changed left its undo record, at a part in the frame
-- at a height.
pub record AreRestored (at : Site) (entry : Captures) (i : ℕ) (old new : Trail) : Type 0 where
  pub length_kept : length new.caps ≡ length old.caps
  pub left : (j : ℕ) → j < i → slice_index_or new.caps j None ≡ slice_index_or old.caps j None
  pub done : drop i new.caps ≡ drop i entry
  pub counted : length new.stack ≡ length old.stack + changes (drop i old.caps) (drop i entry)
  pub failing : (c : Ground)
      → fail c new.stack new.caps ≡ pauses (changes (drop i old.caps) (drop i entry)) (fail c old.stack old.caps)
  pub arounds : (c : Ground) (l h : ℕ) → l ≤ length old.stack → h ≤ length old.stack
      → around_at c new.stack l h ≡ around_at c old.stack l h
  pub outsides : (c : Ground) → at.link ≤ length old.stack
      → Agrees c at.node (outside c new.stack new.caps at.link) (outside c old.stack old.caps at.link)
  pub contained : IsContained at.link old.stack → IsContained at.link new.stack
  pub later : (c : Ground) → IsLater c at.link at.node old.stack → IsLater c at.link at.node new.stack
  pub sound : (c : Ground) (steps : ℕ) → at.link ≤ length old.stack → IsPart c at.node → IsContained at.link old.stack
      → IsLater c at.link at.node old.stack → AreSpans c old.caps → AreSpans c entry
      → AreSound c steps (length old.caps) old.stack → AreSound c steps (length old.caps) new.stack
  pub spans : (c : Ground) → AreSpans c old.caps → AreSpans c entry → AreSpans c new.caps
