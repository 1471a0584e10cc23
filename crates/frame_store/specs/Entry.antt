-- What a record stands for: one constructor for each kind.
use Rattle.std.specs.Prelude.{◌≡◌, ◌≢◌, ◌<◌, ◌≤◌, ◌+◌, ℕ, List, [], ◌∷◌, map, Option, Some, None, nat_eq, if◌then◌else◌}
use Rattle.frame_store.specs.declared.registers.Span.{Span}
use Rattle.frame_store.specs.declared.records.Record.{Record}
use Rattle.frame_store.specs.declared.kinds.TheConstants.{KIND_UNDO, KIND_LATER_BRANCH, KIND_GROUP_OPEN}
use Rattle.frame_store.specs.declared.kinds.TheConstants.{KIND_CALLED_GROUP, KIND_TURN_OPEN, KIND_TURN_OR_EXIT}
use Rattle.frame_store.specs.declared.kinds.TheConstants.{KIND_LATER_TURN, KIND_FEWER_ITEMS, KIND_MORE_ITEMS}
use Rattle.frame_store.specs.declared.kinds.TheConstants.{KIND_ATOMIC_OPEN, KIND_LOOK_OPEN, KIND_LOOK_ALL_OPEN}
use Rattle.frame_store.specs.declared.kinds.TheConstants.{KIND_LOOK_TEST, KIND_DENIAL_OPEN, KIND_DENIAL_TEST}
use Rattle.frame_store.specs.declared.kinds.TheConstants.{KIND_CALL_OPEN, KIND_ATOMIC_LEFT, KIND_MARK_PASSED}
use Rattle.frame_store.specs.declared.kinds.TheConstants.{KIND_COMMIT_PASSED, KIND_PRUNE_PASSED, KIND_SKIP_PASSED}
use Rattle.frame_store.specs.declared.kinds.TheConstants.{KIND_THEN_PASSED, KIND_LATER_TRY}

-- the pattern's part that left a record, and the height of the innermost part still open then
pub record Site : Type 0 where
  pub node : ℕ
  pub link : ℕ

-- the path as it was at the event
pub record Kept : Type 0 where
  pub units : ℕ
  pub place : ℕ
  pub mark : ℕ
  pub passed : ℕ
  pub keep : ℕ
  pub early : ℕ

-- what one event of a search leaves behind
pub data Entry : Type 0 where
  -- a register was written, and held this before
  Undo : Site → (slot : ℕ) → (old : Option Span) → Entry
  -- a branch began, and this later branch is left to try
  LaterBranch : Site → Kept → (next : ℕ) → Entry
  -- a capturing group was entered, in the course of the pattern or by a call
  GroupOpen : Site → Kept → Entry
  CalledGroup : Site → Kept → Entry
  -- a turn of a group repeat began after so many turns; the second kind still has the exit left to try
  TurnOpen : Site → Kept → (count : ℕ) → Entry
  TurnOrExit : Site → Kept → (count : ℕ) → Entry
  -- a lazy group repeat ended after so many turns, and a further turn is left to try
  LaterTurn : Site → Kept → (count : ℕ) → Entry
  -- a greedy one-item repeat went on at the last place, and can go on at each place back to the least
  FewerItems : Site → Kept → (least last : ℕ) → Entry
  -- a lazy one-item repeat went on at the last place after so many items, and can take further ones
  MoreItems : Site → Kept → (count last : ℕ) → Entry
  -- an atomic group was entered
  AtomicOpen : Site → Kept → Entry
  -- a positive lookaround was entered: one of which the first outcome is kept, one of which all are, one in a condition
  LookOpen : Site → Kept → Entry
  LookAllOpen : Site → Kept → Entry
  LookTest : Site → Kept → Entry
  -- a negative lookaround was entered, on its own or in a condition
  DenialOpen : Site → Kept → Entry
  DenialTest : Site → Kept → Entry
  -- a call of a group began, and no active call began past the last place
  CallOpen : Site → Kept → (group last : ℕ) → Entry
  -- an atomic group or lookaround was left with its first outcome, and what stands past the height is dropped at once
  AtomicLeft : Site → Kept → (height : ℕ) → Entry
  -- a verb was passed; where the path fails, it goes back to the height at once, or for THEN to the branch's end
  MarkPassed : Site → Kept → Entry
  CommitPassed : Site → Kept → (height : ℕ) → Entry
  PrunePassed : Site → Kept → (height : ℕ) → Entry
  SkipPassed : Site → Kept → (height next : ℕ) → Entry
  ThenPassed : Site → Kept → Entry
  -- a branch of a lookbehind began, and the tries from so many characters back down to its least length are left
  LaterTry : Site → Kept → (left : ℕ) → Entry
  -- nothing is left to try
  Other : Site → Entry

abbrev pub site_of : Record → Site
site_of r = record { node = r.node; link = r.link }

abbrev pub kept_of : Record → Kept
kept_of r =
    record { units = r.units; place = r.place; mark = r.mark; passed = r.passed; keep = r.keep; early = r.early }

-- the value that an undo record keeps of its register
abbrev pub kept_value : Record → Option Span
kept_value r = if nat_eq r.count 1 then Some (record { from = r.from; to = r.to }) else None

-- what a record stands for, if this is its kind
abbrev pub entry_table : Record → List (ℕ × Entry)
entry_table r =
    (KIND_UNDO, Undo (site_of r) r.slot (kept_value r))
    ∷ (KIND_LATER_BRANCH, LaterBranch (site_of r) (kept_of r) r.count)
    ∷ (KIND_GROUP_OPEN, GroupOpen (site_of r) (kept_of r))
    ∷ (KIND_CALLED_GROUP, CalledGroup (site_of r) (kept_of r))
    ∷ (KIND_TURN_OPEN, TurnOpen (site_of r) (kept_of r) r.count)
    ∷ (KIND_TURN_OR_EXIT, TurnOrExit (site_of r) (kept_of r) r.count)
    ∷ (KIND_LATER_TURN, LaterTurn (site_of r) (kept_of r) r.count)
    ∷ (KIND_FEWER_ITEMS, FewerItems (site_of r) (kept_of r) r.from r.to)
    ∷ (KIND_MORE_ITEMS, MoreItems (site_of r) (kept_of r) r.count r.to)
    ∷ (KIND_ATOMIC_OPEN, AtomicOpen (site_of r) (kept_of r))
    ∷ (KIND_LOOK_OPEN, LookOpen (site_of r) (kept_of r))
    ∷ (KIND_LOOK_ALL_OPEN, LookAllOpen (site_of r) (kept_of r))
    ∷ (KIND_LOOK_TEST, LookTest (site_of r) (kept_of r))
    ∷ (KIND_DENIAL_OPEN, DenialOpen (site_of r) (kept_of r))
    ∷ (KIND_DENIAL_TEST, DenialTest (site_of r) (kept_of r))
    ∷ (KIND_CALL_OPEN, CallOpen (site_of r) (kept_of r) r.slot r.from)
    ∷ (KIND_ATOMIC_LEFT, AtomicLeft (site_of r) (kept_of r) r.from)
    ∷ (KIND_MARK_PASSED, MarkPassed (site_of r) (kept_of r))
    ∷ (KIND_COMMIT_PASSED, CommitPassed (site_of r) (kept_of r) r.from)
    ∷ (KIND_PRUNE_PASSED, PrunePassed (site_of r) (kept_of r) r.from)
    ∷ (KIND_SKIP_PASSED, SkipPassed (site_of r) (kept_of r) r.from r.to)
    ∷ (KIND_THEN_PASSED, ThenPassed (site_of r) (kept_of r))
    ∷ (KIND_LATER_TRY, LaterTry (site_of r) (kept_of r) r.count)
    ∷ []

-- the entry of a kind in a table, if it has one
unfoldable pub entry_in : List (ℕ × Entry) → ℕ → Entry → Entry
entry_in [] kind other = other
entry_in ((k, e) ∷ rest) kind other = if nat_eq kind k then e else entry_in rest kind other

-- what a record stands for
abbrev pub entry_of : Record → Entry
entry_of r = entry_in (entry_table r) r.kind (Other (site_of r))

abbrev pub entries : List Record → List Entry
entries = map entry_of

-- where an event was
abbrev pub entry_site : Entry → Site
entry_site (Undo at slot old) = at
entry_site (LaterBranch at kept next) = at
entry_site (GroupOpen at kept) = at
entry_site (CalledGroup at kept) = at
entry_site (TurnOpen at kept count) = at
entry_site (TurnOrExit at kept count) = at
entry_site (LaterTurn at kept count) = at
entry_site (FewerItems at kept least last) = at
entry_site (MoreItems at kept count last) = at
entry_site (AtomicOpen at kept) = at
entry_site (LookOpen at kept) = at
entry_site (LookAllOpen at kept) = at
entry_site (LookTest at kept) = at
entry_site (DenialOpen at kept) = at
entry_site (DenialTest at kept) = at
entry_site (CallOpen at kept group last) = at
entry_site (AtomicLeft at kept height) = at
entry_site (MarkPassed at kept) = at
entry_site (CommitPassed at kept height) = at
entry_site (PrunePassed at kept height) = at
entry_site (SkipPassed at kept height next) = at
entry_site (ThenPassed at kept) = at
entry_site (LaterTry at kept left) = at
entry_site (Other at) = at

-- the kind of an entry's record, or one past the last kind
abbrev pub entry_kind : Entry → ℕ
entry_kind (Undo at slot old) = KIND_UNDO
entry_kind (LaterBranch at kept next) = KIND_LATER_BRANCH
entry_kind (GroupOpen at kept) = KIND_GROUP_OPEN
entry_kind (CalledGroup at kept) = KIND_CALLED_GROUP
entry_kind (TurnOpen at kept count) = KIND_TURN_OPEN
entry_kind (TurnOrExit at kept count) = KIND_TURN_OR_EXIT
entry_kind (LaterTurn at kept count) = KIND_LATER_TURN
entry_kind (FewerItems at kept least last) = KIND_FEWER_ITEMS
entry_kind (MoreItems at kept count last) = KIND_MORE_ITEMS
entry_kind (AtomicOpen at kept) = KIND_ATOMIC_OPEN
entry_kind (LookOpen at kept) = KIND_LOOK_OPEN
entry_kind (LookAllOpen at kept) = KIND_LOOK_ALL_OPEN
entry_kind (LookTest at kept) = KIND_LOOK_TEST
entry_kind (DenialOpen at kept) = KIND_DENIAL_OPEN
entry_kind (DenialTest at kept) = KIND_DENIAL_TEST
entry_kind (CallOpen at kept group last) = KIND_CALL_OPEN
entry_kind (AtomicLeft at kept height) = KIND_ATOMIC_LEFT
entry_kind (MarkPassed at kept) = KIND_MARK_PASSED
entry_kind (CommitPassed at kept height) = KIND_COMMIT_PASSED
entry_kind (PrunePassed at kept height) = KIND_PRUNE_PASSED
entry_kind (SkipPassed at kept height next) = KIND_SKIP_PASSED
entry_kind (ThenPassed at kept) = KIND_THEN_PASSED
entry_kind (LaterTry at kept left) = KIND_LATER_TRY
entry_kind (Other at) = KIND_LATER_TRY + 1

-- each kind has an entry of its own
abbrev pub KnownKindLaw : Type 0
KnownKindLaw = (r : Record) → r.kind ≤ KIND_LATER_TRY → entry_kind (entry_of r) ≡ r.kind

-- a record of no known kind has nothing left to try
abbrev pub OtherEntryLaw : Type 0
OtherEntryLaw = (r : Record) → KIND_LATER_TRY < r.kind → entry_of r ≡ Other (site_of r)

-- a record of kind 0 is an undo record of the register in its slot
abbrev pub UndoKindLaw : Type 0
UndoKindLaw = (r : Record) → r.kind ≡ 0 → entry_of r ≡ Undo (site_of r) r.slot (kept_value r)

-- an undo record keeps a span where its count is 1
abbrev pub SetValueLaw : Type 0
SetValueLaw = (r : Record) → r.count ≡ 1 → kept_value r ≡ Some (record { from = r.from; to = r.to })

-- with any other count it keeps that the register was unset
abbrev pub UnsetValueLaw : Type 0
UnsetValueLaw = (r : Record) → r.count ≢ 1 → kept_value r ≡ None
