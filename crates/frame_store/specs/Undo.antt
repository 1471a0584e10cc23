-- The way back: what the undo records of a list keep, put back the newest first.
use Rattle.std.specs.Prelude.{◌≡◌, ◌≢◌, ℕ, Bool, true, false, List, [], ◌∷◌, ◌++◌, length, filter, All, Option}
use Rattle.frame_store.specs.declared.registers.Span.{Span}
use Rattle.frame_store.specs.declared.records.Record.{Record}
use Rattle.frame_store.specs.Captures.{Captures, HasGroup, capture, with_capture}
use Rattle.frame_store.specs.Entry.{Site, Entry, Undo, entry_of}

-- the captures before an event
abbrev pub taken_back : Entry → Captures → Captures
taken_back (Undo at slot old) caps = with_capture caps slot old
taken_back _ caps = caps

-- the captures before a list of events, of which the newest stands first
unfoldable pub undone : List Entry → Captures → Captures
undone [] caps = caps
undone (newest ∷ older) caps = undone older (taken_back newest caps)

-- the event was a write to a register
abbrev pub is_undo : Entry → Bool
is_undo (Undo at slot old) = true
is_undo _ = false

-- an undo record's register is there
abbrev pub HasSlot : Captures → Entry → Type 0
HasSlot caps (Undo at slot old) = HasGroup caps slot
HasSlot caps _ = Unit {0}

-- a write to a register
pub record Write : Type 0 where
  pub group : ℕ
  pub value : Option Span

-- the captures after these writes, of which the newest stands first
unfoldable pub written : List Write → Captures → Captures
written [] caps = caps
written (newest ∷ older) caps = with_capture (written older caps) newest.group newest.value

-- the undo records of these writes, the newest first, each with what its register held before
unfoldable pub IsTrail : List Write → Captures → List Entry → Type 0
IsTrail [] caps [] = Unit {0}
IsTrail (w ∷ earlier) caps (e ∷ below) =
    ((at : Site) × (e ≡ Undo at w.group (capture (written earlier caps) w.group))) × IsTrail earlier caps below
IsTrail _ caps _ = ⊥

-- writes whose old values were all pushed are taken back whole
abbrev pub TrailLaw : Type 0
TrailLaw =
    (writes : List Write) (trail : List Entry) (caps : Captures) → IsTrail writes caps trail
    → undone trail (written writes caps) ≡ caps

-- of two lists, that on top is taken back first
abbrev pub AppendLaw : Type 0
AppendLaw = (newer older : List Entry) (caps : Captures)
    → undone (newer ++ older) caps ≡ undone older (undone newer caps)

-- only undo records count
abbrev pub FilterLaw : Type 0
FilterLaw = (stack : List Entry) (caps : Captures) → undone stack caps ≡ undone (filter is_undo stack) caps

-- records that aren't undo records change nothing
abbrev pub PlainLaw : Type 0
PlainLaw = (stack : List Entry) (caps : Captures) → All (λ e. is_undo e ≡ false) stack → undone stack caps ≡ caps

-- the registers stay as many
abbrev pub LengthLaw : Type 0
LengthLaw = (stack : List Entry) (caps : Captures) → length (undone stack caps) ≡ length caps

-- a record of another kind changes no register
abbrev pub OtherKindLaw : Type 0
OtherKindLaw = (r : Record) (caps : Captures) → r.kind ≢ 0 → taken_back (entry_of r) caps ≡ caps
