-- The records of lookarounds.
use Rattle.std.specs.Prelude.{ℕ, Bool, true, false}
use Rattle.frame_store.specs.declared.kinds.TheConstants.{KIND_LOOK_OPEN, KIND_LOOK_ALL_OPEN, KIND_DENIAL_OPEN}
use Rattle.frame_store.specs.Entry.{Site, Kept, Entry, LookOpen, LookAllOpen, DenialOpen}

-- what a lookaround leaves, positive or negative, atomic or not
abbrev pub look_entry : Bool → Bool → Site → Kept → Entry
look_entry true true = LookOpen
look_entry true false = LookAllOpen
look_entry false once = DenialOpen

abbrev pub look_kind : Bool → Bool → ℕ
look_kind true true = KIND_LOOK_OPEN
look_kind true false = KIND_LOOK_ALL_OPEN
look_kind false once = KIND_DENIAL_OPEN
