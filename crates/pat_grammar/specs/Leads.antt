-- The callout before a lookaround that a conditional group tests, and that lookaround, as the
-- reader holds them.
use Rattle.std.specs.Prelude.{◌≡◌, ℕ, ◌+◌, ◌≤◌, Bool, false, List, [], ◌∷◌, Option, Some, None, Result, Ok, Err}
use Rattle.token_parts.specs.declared.fault.Fault.{Fault}
use Rattle.pat_tree.specs.Nested.{Nested}
use Rattle.pat_grammar.specs.State.{State, item}
use Rattle.pat_grammar.specs.Callouts.{callout_of}
use Rattle.pat_grammar.specs.Parts as parts
use Rattle.pat_grammar.specs.Places.{Always, Tells, state_at}
use Rattle.pat_grammar.specs.declared.callouts.Called.{Called}
use Rattle.pat_grammar.specs.declared.callouts.Lead.{Lead}
use Rattle.pat_grammar.specs.declared.cursor.Cursor.{Cursor}
use Rattle.pat_grammar.specs.declared.cursor.Place.{Place}
use Rattle.pat_grammar.specs.declared.cursor.Spot.{Spot}
use Rattle.pat_grammar.specs.declared.cursor.Assertion.{Assertion}
use Rattle.pat_grammar.specs.declared.error.ReadError.{ReadError}

abbrev pub lead_of : Option Lead → List Nested
lead_of None = []
lead_of (Some l) =
    let item : ℕ × ℕ = (l.item.at, l.item.len) in
    callout_of l.called.number l.called.text_from l.called.text_to item ∷ []

-- the item after it stands in a text of so many bytes
abbrev pub IsWithin : ℕ → Lead → Type 0
IsWithin n l = l.item.at + l.item.len ≤ n

-- by the states at the places
abbrev pub assertion_at : (Place → State) → Assertion → parts.Assertion
assertion_at state a = (a.ahead, a.positive, state a.here, state a.after, lead_of a.lead)

-- a callout that is written, before what stands at a state
abbrev pub written : Called → List ℕ → State → List Nested
written called text = parts.written_lead called.number called.text_from called.text_to text

-- It is the callout that a definition gives, from every state of the reader at a place.
abbrev pub LeadIs : Cursor → Place → (List ℕ → State → List Nested) → Option Lead → Type 0
LeadIs cursor place means lead =
    (st : State) → means cursor.text.now (state_at cursor st place) ≡ lead_of lead

-- the lookaround that begins at a spot, after such a callout
abbrev pub look_of : Cursor → ℕ → Option Lead → Spot → State → Result parts.Assertion Fault
look_of cursor at lead spot st =
    parts.look_by at (lead_of lead) spot.token (state_at cursor st spot.here)
    (state_at cursor st spot.after)

abbrev pub LookIs : Cursor → ℕ → Option Lead → Spot → Assertion → Type 0
LookIs cursor at lead spot a =
    (st : State) → look_of cursor at lead spot st ≡ Ok (assertion_at (state_at cursor st) a)

abbrev pub LookFails : Cursor → ℕ → Option Lead → Spot → Fault → Type 0
LookFails cursor at lead spot f = (st : State) → look_of cursor at lead spot st ≡ Err f

-- what a definition gives of a lookaround that is tested, by the text, a bound of what is passed
-- over before it, and the state
abbrev pub Meaning : Type 0
Meaning = List ℕ → ℕ → State → Result parts.Assertion Fault

-- after a callout that is written and ends there
abbrev pub called_look : ℕ → Called → Meaning
called_look at called text n st = parts.look_at at (written called text st) (item text false n st)

abbrev pub assertion_from : Bool → ℕ → Meaning
assertion_from calling at text n st = parts.assertion calling text n at st

abbrev pub Finds : Cursor → Place → Meaning → Assertion → Type 0
Finds cursor place means a =
    Always cursor place (λ text n state. means text n (state place) ≡ Ok (assertion_at state a))

abbrev pub Fails : Cursor → Place → Meaning → ReadError → Type 0
Fails cursor place means e =
    Always cursor place (λ text n state. Tells (means text n (state place)) e)
