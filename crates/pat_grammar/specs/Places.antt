-- What the definitions give at the places of a cursor.
use Rattle.std.specs.Prelude.{◌≡◌, ℕ, ◌+◌, ◌<◌, ◌≤◌, ℤ, pos, negsuc, Bool, false, not, ◌&&◌, ◌==◌, List, [], ◌∷◌}
use Rattle.std.specs.Prelude.{◌++◌, length, None, Result, Err, IsTrue, ◌⊎◌}
use Rattle.std.specs.List.{list_any}
use Rattle.pat_tree.specs.declared.nodes.Part.{Part}
use Rattle.token_parts.specs.declared.fault.Fault.{Fault}
use Rattle.token_parts.specs.declared.token.LexFlags.{LexFlags}
use Rattle.token_parts.specs.declared.token.Token.{Token}
use Rattle.token_parts.specs.declared.token.Token.TheVariants.{ClassEnd}
use Rattle.token_parts.specs.Tell as own
use Rattle.token_parts.specs.Tell.{is_own}
use Rattle.pat_grammar.specs.State.{State, Reads, flags_of}
use Rattle.pat_grammar.specs.Classes.{part_then, range_or_hyphen, from_character, from_set, from_item}
use Rattle.pat_grammar.specs.declared.alternatives.Bars.TheVariants.{Free}
use Rattle.pat_grammar.specs.declared.alternatives.Numbering.TheVariants.{Onward}
use Rattle.pat_grammar.specs.declared.cursor.Place.{Place}
use Rattle.pat_grammar.specs.declared.cursor.Cursor.{Cursor}
use Rattle.pat_grammar.specs.declared.error.ReadError.{ReadError}
use Rattle.pat_grammar.specs.declared.error.ReadError.TheVariants.{Bad, Memory}

-- the state at another place
abbrev pub moved_to : State → Place → State
moved_to st place = record st { at = place.at; quoting = place.quoting }

-- the state at a place, with the options and the groups of a cursor
abbrev pub state_at : Cursor → State → Place → State
state_at cursor st place = record st {
  at = place.at;
  quoting = place.quoting;
  options = cursor.options;
  groups = cursor.groups;
}

-- what the tokens depend on at a place, which is nothing else of the state
abbrev pub flags_at : Cursor → Bool → Place → LexFlags
flags_at cursor in_class place =
    flags_of in_class (record {
      at = place.at;
      quoting = place.quoting;
      options = cursor.options;
      groups = cursor.groups;
      depth = 0;
      looking = false;
      bars = Free;
      numbering = Onward;
      classes = [];
      names = [];
      verb_names = [];
      references = [];
      beyond = None;
      called = None;
    })

-- What is said of a text, of a number that bounds the items of a class, and of the states at the places.
abbrev pub Claim : Type 1
Claim = List ℕ → ℕ → (Place → State) → Type 0

-- a part of a class from a text, such a number, the reading of the parts after it and the states at the places
abbrev pub PartReading : Type 0
PartReading = List ℕ → ℕ → (State → Reads (List Part)) → (Place → State) → Reads (List Part)

-- the readings that begin with a character, with a set, and with any item, between such places
abbrev pub range_between : ℕ → Place → Place → Place → PartReading
range_between c here before after = λ text n rest state. range_or_hyphen text n rest c (state here) (state before)
    (state after)

abbrev pub character_between : ℕ → Place → Place → PartReading
character_between c here after = λ text n rest state. from_character text n rest c (state here) (state after)

abbrev pub set_before : Part → Place → PartReading
set_before set after = λ text n rest state. from_set text n rest set (state after)

abbrev pub item_between : Bool → Token → Place → Place → PartReading
item_between first token here after = λ text n rest state. from_item text n rest first token (state here) (state after)

module _ (cursor : Cursor) (place : Place) where
  -- From every state of the reader, and for every bound of more than the bytes that are left at the place.
  abbrev pub Always : Claim → Type 0
  Always claim = (st : State) (n : ℕ) → length cursor.text.now < n + place.at
      → claim cursor.text.now n (state_at cursor st)

  -- The same for every bound of at least two more than the bytes that are left, as where a class begins.
  abbrev pub AlwaysFromStart : Claim → Type 0
  AlwaysFromStart claim = (st : State) (n : ℕ) → length cursor.text.now + 1 < n + place.at
      → claim cursor.text.now n (state_at cursor st)

  -- Always a part is read, and the parts from the next place on after it.
  abbrev pub GivesPart : PartReading → Part → Place → Type 0
  GivesPart reading part next =
      (st : State) (n : ℕ) (rest : State → Reads (List Part)) → length cursor.text.now < n + place.at →
      reading cursor.text.now n rest (state_at cursor st) ≡ part_then part (rest (state_at cursor st next))

  -- Always a fault is told, whatever is read after it.
  abbrev pub GivesFault : PartReading → Fault → Type 0
  GivesFault reading f =
      (st : State) (n : ℕ) (rest : State → Reads (List Part)) → length cursor.text.now < n + place.at →
      reading cursor.text.now n rest (state_at cursor st) ≡ Err f

-- The token closes the class, which may be empty or has an item.
abbrev pub is_closing : Bool → Bool → Token → Bool
is_closing first allow token = elim token [ ClassEnd ↦ not (first && not allow) | _ ↦ false ]

-- An error is the fault of a reading, or want of memory.
abbrev pub Tells : {A : Type 0} → Result A Fault → ReadError → Type 0
Tells r e = elim e [ Bad number at ↦ r ≡ Err (record { number = number; at = at }) | Memory ↦ Unit {0} ]

-- the fault is that of the reading
abbrev pub Refuses : {A : Type 0} → Result A Fault → ReadError → Type 0
Refuses read (Bad number at) = read ≡ Err (record { number = number; at = at })
Refuses read Memory = Unit {0}

-- what holds of the number and the place of an error that isn't want of memory
abbrev pub IfBad : ReadError → (ℤ → ℕ → Type 0) → Type 0
IfBad e claim = elim e [ Bad number at ↦ claim number at | Memory ↦ Unit {0} ]

-- the numbers of the faults that depend on the tokens before, and of all faults of a text that is
-- read (pcre2api, "Error codes from pcre2_compile()")
abbrev pub later_numbers : List ℕ
later_numbers = 106 ∷ 108 ∷ 109 ∷ 115 ∷ 119 ∷ 122 ∷ 127 ∷ 143 ∷ 147 ∷ 150 ∷ 154 ∷ 165 ∷ 199 ∷ []

abbrev pub numbers : List ℕ
numbers = later_numbers ++ own.numbers

-- the number is one of them, or -3, which is that of a text that isn't UTF-8
abbrev pub is_listed : ℤ → Bool
is_listed (pos n) = list_any (λ m. m == n) numbers
is_listed (negsuc n) = n == 2

-- an error that isn't want of memory has such a number
abbrev pub IsListed : ReadError → Type 0
IsListed (Bad number at) = IsTrue (is_listed number)
IsListed Memory = Unit {0}

-- its place is in the text or at its end
abbrev pub IsInText : List ℕ → ReadError → Type 0
IsInText text (Bad number at) = at ≤ length text
IsInText text Memory = Unit {0}

-- the faults in a class: those of its tokens, and 106, 108, 147 and 150
abbrev pub IsClassFault : ℤ → Type 0
IsClassFault number = IsTrue (is_own number) ⊎ (number ≡ pos 106) ⊎ (number ≡ pos 108) ⊎ (number ≡ pos 147) ⊎
    (number ≡ pos 150)
