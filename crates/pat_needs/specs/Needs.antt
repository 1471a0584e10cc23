-- Texts of which every match of a part of a pattern takes one (docs/SPEED.md, "A text that every match needs").
use Rattle.std.specs.Prelude.{◌≡◌, ℕ, zero, suc, ◌<◌, ◌≤◌, IsTrue, Bool, true, false, ◌==◌, ◌||◌, nat_lt, nat_le}
use Rattle.std.specs.Prelude.{if◌then◌else◌, ◌⊎◌, List, [], ◌∷◌}
use Rattle.byte_lanes.specs.Sets.{has_byte}
use Rattle.pat_tree.specs.declared.nodes.Item.{Item}
use Rattle.pat_tree.specs.declared.nodes.Item.TheVariants.{Char, AnyAll, NotNewline, Class}
use Rattle.pat_tree.specs.Nested.{Nested, Row, empty, one, line_break, seq, group, repeat, one_repeat, atomic, look}
use Rattle.pat_tree.specs.Nested.{condition, call, ref, anchor, keep_out, verb, callout, none, more}
use Rattle.uni_text.specs.Ascii.{ascii_fold}
use Rattle.uni_text.specs.Folding.{fold, begins_past_ascii}

-- In UTF a character that agrees with c, without regard to case or with it, may begin with the byte: a byte of ASCII is
-- the whole character.
abbrev pub may_begin : Bool → ℕ → ℕ → Bool
may_begin true c b = if nat_lt b 128 then fold c == fold b else begins_past_ascii c b
may_begin false c b = if nat_lt b 128 then c == b else nat_le 128 c

-- The item may take a character that begins with the byte, in UTF or not, by what the classes hold of. In UTF nothing
-- is told of classes.
abbrev pub may_take : Bool → (ℕ → ℕ → Bool) → Item → ℕ → Bool
may_take utf class_has (Char c caseless) b =
    if utf then may_begin caseless c b else if caseless then ascii_fold c == ascii_fold b else c == b
may_take utf class_has AnyAll b = true
may_take utf class_has NotNewline b = true
may_take utf class_has (Class n) b = utf || class_has n b

-- so many single items of a kind in a row
abbrev pub copies : ℕ → Item → Row
copies zero item = none
copies (suc n) item = more (one item) (copies n item)

-- what items may take
module _ (may : Item → ℕ → Bool) where
  -- every byte that the item may take is in the set
  abbrev pub TakesOf : List Bool → Item → Type 0
  TakesOf set item = (b : ℕ) → b < 256 → may item b ≡ true → has_byte set b ≡ true

  -- the part is an item that takes bytes of the set alone
  abbrev pub IsTaking : List Bool → Nested → Type 0
  IsTaking set t = (item : Item) × ((t ≡ one item) × TakesOf set item)

  -- in UTF or not
  module _ (utf : Bool) where
    -- each character that the item takes is one byte: in UTF none begins past ASCII
    abbrev pub IsShort : Item → Type 0
    IsShort item = (utf ≡ false) ⊎ ((b : ℕ) → 128 ≤ b → b < 256 → may item b ≡ false)

    -- so that what stands behind it stands at the next byte, where there are sets for it
    abbrev pub IsShortBefore : List (List Bool) → Nested → Type 0
    IsShortBefore [] t = Unit {0}
    IsShortBefore (set ∷ sets) t = (item : Item) → t ≡ one item → IsShort item

    -- the row begins with an item for each set
    abbrev pub Begins : List (List Bool) → Row → Type 0
    Begins [] ts = Unit {0}
    Begins (set ∷ sets) none = ⊥
    Begins (set ∷ sets) (more t ts) = IsTaking set t × (IsShortBefore sets t × Begins sets ts)

    -- whether the text may stand anywhere in a match, or where the match begins; and the text by its sets
    module _ (anywhere : Bool) (text : List (List Bool)) where
      -- A sequence needs what one of its parts needs or what some items in it take, at its beginning the first ones, a
      -- repeat what as many items in a row take as its minimum says, and a group what each of its branches needs.
      abbrev mutual
        pub Needs : Nested → Type 0
        Needs empty = ⊥
        Needs (one item) = Begins text (more (one item) none)
        Needs line_break = ⊥
        Needs (seq ts) = SomeNeeds ts
        Needs (group number ts) = AllNeed ts
        Needs (repeat t low high lazily) = ⊥
        Needs (one_repeat item low high lazily) = Begins text (copies low item)
        Needs (atomic ts) = AllNeed ts
        Needs (look true true once ts) = AllNeed ts
        Needs (look true false once ts) = ⊥
        Needs (look false positive once ts) = ⊥
        Needs (condition test first second) = ⊥
        Needs (call n) = ⊥
        Needs (ref ns caseless) = ⊥
        Needs (anchor kind) = ⊥
        Needs keep_out = ⊥
        Needs (verb v) = ⊥
        Needs (callout c) = ⊥

        pub SomeNeeds : Row → Type 0
        SomeNeeds none = ⊥
        SomeNeeds (more t ts) = Needs t ⊎ (Begins text (more t ts) ⊎ (IsTrue anywhere × SomeNeeds ts))

        pub AllNeed : Row → Type 0
        AllNeed none = Unit {0}
        AllNeed (more t ts) = Needs t × AllNeed ts
