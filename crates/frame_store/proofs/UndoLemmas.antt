-- The way back over lists of entries.
use Rattle.std.proofs.Common.{◌≡◌, ◌<◌, ◌≤◌, ℕ, ◌-◌, take, drop, reverse, All, false, ◌∙◌, List, [], ◌∷◌, length}
use Rattle.std.proofs.Common.{get_or, Option, None, refl, sym, ap}
use Rattle.std.proofs.lemmas.List.{length-set, set-set, set-get_or, take_rest, length-reverse}
use Rattle.std.proofs.lemmas.List.Elements.{All-cons, All-head, All-tail, All-weaker}
use Rattle.std.proofs.lemmas.Bool.{false≢true}
use Rattle.frame_store.specs.declared.records.Record.{Record}
use Rattle.frame_store.specs.declared.kinds.TheConstants.{KIND_UNDO}
use Rattle.frame_store.specs.Captures.{Captures, HasGroup, capture, with_capture}
use Rattle.frame_store.specs.Entry.{Entry, Undo, entry_of, entries}
use Rattle.frame_store.specs.Stack.{Stack, past}
use Rattle.frame_store.specs.Undo.{taken_back, undone, is_undo, written, IsTrail, HasSlot, TrailLaw, AppendLaw}
use Rattle.frame_store.specs.Undo.{FilterLaw, PlainLaw, LengthLaw}
use Rattle.frame_store.proofs.EntryLemmas.{entry_of-undo}
use Rattle.frame_store.proofs.StackLemmas.{past-map, past-reverse, reverse-take}

pub length-taken_back : (e : Entry) (caps : Captures) → length (taken_back e caps) ≡ length caps
length-taken_back (Undo at slot old) caps = length-set caps _ old
length-taken_back _ caps = refl

pub length-undone : LengthLaw
unfolding undone
length-undone [] caps = refl
length-undone (newest ∷ older) caps = length-undone older (taken_back newest caps) ∙ length-taken_back newest caps

pub undone-append : AppendLaw
unfolding undone
undone-append [] older caps = refl
undone-append (newest ∷ newer) older caps = undone-append newer older (taken_back newest caps)

pub undone-filter : FilterLaw
unfolding undone
undone-filter [] caps = refl
undone-filter (Undo at slot old ∷ older) caps = undone-filter older (with_capture caps slot old)
undone-filter (_ ∷ older) caps = undone-filter older caps

taken_back-plain : (e : Entry) (caps : Captures) → is_undo e ≡ false → taken_back e caps ≡ caps
taken_back-plain (Undo at slot old) caps h = absurd (false≢true (sym h))
taken_back-plain _ caps h = refl

pub undone-plain : PlainLaw
unfolding undone
undone-plain [] caps h = refl
undone-plain (newest ∷ older) caps h =
    ap (undone older) (taken_back-plain newest caps (All-head (λ e. is_undo e ≡ false) newest older h))
    ∙ undone-plain older caps (All-tail (λ e. is_undo e ≡ false) newest older h)

-- a write is taken back by the value that stood before it
with_capture-taken_back : (caps : Captures) (group : ℕ) (value : Option _)
    → with_capture (with_capture caps group value) group (capture caps group) ≡ caps
with_capture-taken_back caps group value = set-set caps (group - 1) value _ ∙ set-get_or caps (group - 1) None

pub undone-trail : TrailLaw
unfolding undone written IsTrail
undone-trail [] [] caps h = refl
undone-trail [] (e ∷ below) caps h = absurd h
undone-trail (w ∷ earlier) [] caps h = absurd h
undone-trail (w ∷ earlier) (e ∷ below) caps h =
    let before = written earlier caps in
    ap (λ (z : Entry). undone below (taken_back z (with_capture before w.group w.value))) h.0.1
    ∙ ap (undone below) (with_capture-taken_back before w.group w.value) ∙ undone-trail earlier below caps h.1

pub undone-cons : (e : Entry) (older : List Entry) (caps : Captures)
    → undone (e ∷ older) caps ≡ undone older (taken_back e caps)
unfolding undone
undone-cons e older caps = refl

pub undone-nil : (caps : Captures) → undone [] caps ≡ caps
unfolding undone
undone-nil caps = refl

-- as many registers have the same slots
HasSlot-same : (old new : Captures) (e : Entry) → length new ≡ length old → HasSlot old e → HasSlot new e
HasSlot-same old new (Undo at slot value) same h = (h.0, rw same h.1)
HasSlot-same old new _ same h = tt

pub AllHaveSlots-same : (old new : Captures) (stack : List Entry) → length new ≡ length old → All (HasSlot old) stack
    → All (HasSlot new) stack
AllHaveSlots-same old new stack same h =
    All-weaker (HasSlot old) (HasSlot new) (λ e has. HasSlot-same old new e same has) stack h

-- the later records of a stack, which the code has oldest first
pub past-entries : (to : ℕ) (xs : List Record) → to ≤ length xs
    → past to (entries (reverse xs)) ≡ entries (reverse (take (length xs - to) (drop to xs)))
past-entries to xs h =
    past-map entry_of to (reverse xs) ∙ ap entries (past-reverse to xs h)
    ∙ ap (λ ys. entries (reverse ys)) (sym (take_rest xs to))

-- the later records of a store, as it reads them
pub past-read : (stack : Stack) (items read : List Record) (to : ℕ) → reverse items ≡ stack.records → read ≡ items
    → to ≤ length stack.records → past to (entries stack.records) ≡ entries
    (reverse (take (length read - to) (drop to read)))
past-read stack items read to view same h =
    let within : to ≤ length items = rw (← length-reverse items, view) h in
    ap (λ ys. past to (entries ys)) (sym view) ∙ past-entries to items within
    ∙ ap (λ (ys : List Record). entries (reverse (take (length ys - to) (drop to ys)))) (sym same)

-- the newest of the first i records is taken back first
pub entries-take : (i : ℕ) (xs : List Record) (d : Record) → 0 < i → i ≤ length xs
    → entries (reverse (take i xs)) ≡ entry_of (get_or xs (i - 1) d) ∷ entries (reverse (take (i - 1) xs))
entries-take i xs d p h = ap entries (reverse-take i xs d p h)

-- a pushed undo record of a register that is there, and any other pushed record, leave all slots there
pub AllHaveSlots-undo : (caps : Captures) (r : Record) (older : List Record) → r.kind ≡ KIND_UNDO
    → HasGroup caps r.slot → All (HasSlot caps) (entries older) → All (HasSlot caps) (entries (r ∷ older))
AllHaveSlots-undo caps r older undo has h =
    All-cons (HasSlot caps) (entry_of r) (entries older) (rw (entry_of-undo r undo) has) h

HasSlot-plain : (caps : Captures) (e : Entry) → is_undo e ≡ false → HasSlot caps e
HasSlot-plain caps (Undo at slot old) h = absurd (false≢true (sym h))
HasSlot-plain caps _ h = tt

pub AllHaveSlots-plain : (caps : Captures) (r : Record) (older : List Record) → is_undo (entry_of r) ≡ false
    → All (HasSlot caps) (entries older) → All (HasSlot caps) (entries (r ∷ older))
AllHaveSlots-plain caps r older plain h =
    All-cons (HasSlot caps) (entry_of r) (entries older) (HasSlot-plain caps (entry_of r) plain) h
