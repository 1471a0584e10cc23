-- What each token begins, outside classes.
use Rattle.std.specs.Prelude.{ℕ, zero, suc, ◌+◌, min, ℤ, pos, negsuc, Bool, true, false, not, ◌&&◌, ◌==◌, List, []}
use Rattle.std.specs.Prelude.{◌∷◌, ◌++◌, length, nat_le, Option, Some, None, Result, Ok, Err, slice_range}
use Rattle.std.specs.Prelude.{if◌then◌else◌}
use Rattle.pat_tree.specs.declared.nodes.Item.TheVariants as item
use Rattle.pat_tree.specs.declared.nodes.AnchorKind.{AnchorKind}
use Rattle.pat_tree.specs.declared.nodes.AnchorKind.TheVariants as kind
use Rattle.pat_tree.specs.declared.nodes.Part.{Part}
use Rattle.pat_tree.specs.declared.nodes.Part.TheVariants as part
use Rattle.pat_tree.specs.declared.nodes.ClassSpec.{ClassSpec}
use Rattle.pat_tree.specs.declared.names.NameEntry.{NameEntry}
use Rattle.pat_tree.specs.Nested.{Nested, empty, one, line_break, seq, repeat, one_repeat, atomic, look, call, ref}
use Rattle.pat_tree.specs.Nested.{anchor, keep_out, verb, row}
use Rattle.pat_tree.specs.Refs.{beside_whole}
use Rattle.token_parts.specs.declared.fault.Fault.{Fault}
use Rattle.token_parts.specs.declared.token.OpenKind.{OpenKind}
use Rattle.token_parts.specs.declared.token.OpenKind.TheVariants as opening
use Rattle.token_parts.specs.declared.token.CondText.{CondText}
use Rattle.token_parts.specs.declared.token.CondText.TheVariants as tested
use Rattle.token_parts.specs.declared.token.QuantMode.{QuantMode}
use Rattle.token_parts.specs.declared.token.QuantMode.TheVariants.{Greedy, Lazy, Possessive}
use Rattle.token_parts.specs.declared.token.Target.{Target}
use Rattle.token_parts.specs.declared.token.Target.TheVariants.{Number}
use Rattle.token_parts.specs.declared.token.VerbKind.{VerbKind}
use Rattle.token_parts.specs.declared.token.Token.{Token}
use Rattle.token_parts.specs.declared.token.Token.TheVariants as token
use Rattle.token_parts.specs.Tell.{fault, ◌>>=◌}
use Rattle.pat_grammar.specs.State.{State, Known, Item, item}
use Rattle.pat_grammar.specs.Options.{with_setting}
use Rattle.pat_grammar.specs.Verbs.{verb_of, number_of_name, names_after, may_be_repeated}
use Rattle.pat_grammar.specs.Classes.{class_spec, property_part}
use Rattle.pat_grammar.specs.Callouts.{next_item, callout_of}
use Rattle.pat_grammar.specs.Groups.{Opening, Opens, grouped, atomically, looks, asserted, asserting, opened}
use Rattle.pat_grammar.specs.Groups.{captured, named, reset, named_by, form_in, beyond_after}

-- An alternative without parts is empty, one with one part is that part.
abbrev pub alternative : List Nested → Nested
alternative [] = empty
alternative (t ∷ []) = t
alternative (t ∷ u ∷ ts) = seq (row (t ∷ u ∷ ts))

-- without a maximum a lookaround is repeated at most once more than it must be ("Assertions")
abbrev pub once_more : ℕ → Option ℕ → Option ℕ
once_more low None = Some (min (low + 1) 65535)
once_more low (Some high) = Some high

-- what takes one character has a repeat of its own
abbrev pub repeat_of : ℕ → Option ℕ → Bool → Nested → Nested
repeat_of low high lazy (one item) = one_repeat item low high lazy
repeat_of low high lazy (look ahead positive once ts) =
    repeat (look ahead positive once ts) low (once_more low high) lazy
repeat_of low high lazy t = repeat t low high lazy

-- UNGREEDY swaps greedy and lazy
abbrev pub is_lazy : QuantMode → Bool → Bool
is_lazy Greedy ungreedy = ungreedy
is_lazy Lazy ungreedy = not ungreedy
is_lazy Possessive ungreedy = false

-- a possessive quantifier is an atomic group round the repeat
abbrev pub held : QuantMode → Nested → Nested
held Greedy t = t
held Lazy t = t
held Possessive t = atomic (row (t ∷ []))

-- an atom under a quantifier ("Repetition", "Atomic grouping and possessive quantifiers")
abbrev pub repeated : ℕ → Option ℕ → QuantMode → Bool → Nested → Nested
repeated low high mode ungreedy t = held mode (repeat_of low high (is_lazy mode ungreedy) t)

-- what begins at a token
pub data Beginning : Type 0 where
  -- a part that a quantifier may follow, and one that none may follow, with the state after it
  atom : Nested → State → Beginning
  bare : Nested → State → Beginning
  -- the inside of a group
  inside : Opening → State → Beginning
  -- a conditional group, the callout before its test if one stands there, and the inside of the
  -- lookaround that it tests
  asserts : Opening → List Nested → Opening → State → Beginning
  -- nothing that is a part
  nothing : State → Beginning
  -- the alternative ends before the token
  over : Beginning

abbrev pub enters : Opens → Result Beginning Fault
enters opens = opens >>= λ (opened, begun). Ok (inside opened begun)

abbrev pub simple : AnchorKind → State → Result Beginning Fault
simple kind next = Ok (bare (anchor kind) next)

-- a class is a new entry of the table
abbrev pub of_class : ClassSpec → State → Beginning
of_class spec after = atom (one (item.Class (length after.classes)))
    (record after { classes = after.classes ++ spec ∷ [] })

-- A type outside a class is a class of its own.
abbrev pub type_class : State → Part → ClassSpec
type_class st p = record { negated = false; caseless = st.options.caseless; parts = p ∷ [] }

-- `.` ("Full stop (period, dot) and \N")
abbrev pub any_or_line : Bool → Nested
any_or_line true = one item.AnyAll
any_or_line false = one item.NotNewline

abbrev pub boundary : Bool → Bool → AnchorKind
boundary true ucp = kind.NotWord ucp
boundary false ucp = kind.Word ucp

abbrev pub with_reference : State → State → List ℕ → Beginning
with_reference st next groups =
    atom (ref groups st.options.caseless)
    (record next { references = st.references ++ record { at = st.at; groups = groups } ∷ [] })

-- a call of a group ("Recursive patterns", "Groups as subroutines")
abbrev pub with_call : State → State → ℕ → Beginning
with_call st next n =
    atom (call n) (record next {
      references = st.references ++ record {
        at = st.at;
        groups = beside_whole (n ∷ []);
      } ∷ [];
    })

abbrev pub is_number : Target → Bool
is_number (Number n) = true
is_number _ = false

-- The group that is called, the first of those of a name. The whole pattern is called by its number 0 alone: a name or
-- a relative number that gives 0 names no group.
abbrev pub number_called : Bool → List ℕ → Option ℕ
number_called by_number [] = None
number_called true (n ∷ ns) = Some n
number_called false (zero ∷ ns) = None
number_called false (suc n ∷ ns) = Some (suc n)

-- A call that names no group is told as such a reference is.
abbrev pub called : State → State → List ℕ → Option ℕ → Beginning
called st next groups None = with_reference st next groups
called st next groups (Some n) = with_call st next n

unfoldable pub calls : List NameEntry → List ℕ → State → Target → State → Result Beginning Fault
calls known text st target next =
    named_by known text st target >>= λ groups. Ok (called st next groups (number_called (is_number target) groups))

-- a part that a quantifier may follow, or none
abbrev pub part_if : Bool → Nested → State → Beginning
part_if true t after = atom t after
part_if false t after = bare t after

abbrev pub with_verb : VerbKind → List ℕ → State → State → Beginning
with_verb kind name st next =
    part_if (may_be_repeated kind) (verb (verb_of kind (number_of_name st.verb_names name)))
    (record next { verb_names = names_after st.verb_names name })

-- a verb of this name
unfoldable pub verbs : VerbKind → List ℕ → State → State → Result Beginning Fault
verbs kind name st next = Ok (with_verb kind name st next)

-- A callout, and the state after it.
abbrev pub with_callout : ℕ → ℕ → ℕ → ℕ × ℕ → State → Beginning
with_callout number from to found next = bare (callout_of number from to found) (record next { called = Some found.0 })

-- a callout, where callouts are read
unfoldable pub callouts : Bool → List ℕ → ℕ → ℕ → ℕ → State → State → Result Beginning Fault
callouts calling text number from to st next =
    if calling then Ok (with_callout number from to (next_item text next) next) else fault 195 st.at

-- a conditional group, the text of whose test is given
unfoldable pub conditions : List NameEntry → List ℕ → State → CondText → List ℕ → State → Result Beginning Fault
conditions known text st cond word next =
    if nat_le 250 st.depth then fault 119 st.at
    else form_in known text st cond word >>= λ form. enters
    (opened st form (record next { beyond = beyond_after known st cond word }))

-- what a lookaround that a conditional group tests says: ahead, positive, the states before and
-- after its parenthesis, and the callout before it, if one stands there
abbrev pub Assertion : Type 0
Assertion = Bool × Bool × State × State × List Nested

-- what begins a lookaround that keeps its first way: ahead, positive
abbrev pub kept_look : OpenKind → Option (Bool × Bool)
kept_look (opening.Look ahead positive true) = Some (ahead, positive)
kept_look _ = None

abbrev pub asserted_if : ℕ → List Nested → Option (Bool × Bool) → State → State → Result Assertion Fault
asserted_if at lead (Some (ahead, positive)) here after = Ok (ahead, positive, here, after, lead)
asserted_if at lead None here after = fault 128 at

-- by the token where the lookaround of the conditional group at this place has to be, with the
-- callout before it and the states before and after it
abbrev pub look_by : ℕ → List Nested → Token → State → State → Result Assertion Fault
look_by at lead (token.Open kind) here after = asserted_if at lead (kept_look kind) here after
look_by at lead _ here after = fault 128 at

abbrev pub has_number : ℕ → ℤ → Bool
has_number n (pos m) = m == n
has_number n (negsuc m) = false

abbrev pub malformed : ℕ → Fault
malformed at = record { number = pos 128; at = at }

-- Of the tokens before the lookaround the fault of a comment that isn't closed is told, and where no callout stands yet
-- that of a callout's number; of any other token none is.
abbrev pub fault_of_look : ℕ → Fault → Fault
fault_of_look at f = if has_number 118 f.number then f else malformed at

abbrev pub fault_of_test : ℕ → Fault → Fault
fault_of_test at f = if has_number 138 f.number then f else fault_of_look at f

abbrev pub look_at : ℕ → List Nested → Result Item Fault → Result Assertion Fault
look_at at lead (Ok (token, here, after)) = look_by at lead token here after
look_at at lead (Err f) = Err (fault_of_look at f)

-- AUTO_CALLOUT has a callout before the lookaround, unless one is written there.
abbrev pub automatic_lead : Bool → List ℕ → State → List Nested
automatic_lead calling text here =
    if calling && here.options.auto_callout
    then callout_of 255 0 0 (next_item text here) ∷ [] else []

-- a callout that is written, before what stands at a state
abbrev pub written_lead : ℕ → ℕ → ℕ → List ℕ → State → List Nested
written_lead number from to text here = callout_of number from to (next_item text here) ∷ []

-- One callout may stand before the lookaround, where callouts are read.
abbrev pub asserted_by : Bool → List ℕ → ℕ → ℕ → Token → State → State → Result Assertion Fault
asserted_by calling text n at (token.CalloutItem number from to) here after =
    if calling then look_at at (written_lead number from to text after) (item text false n after)
    else fault 195 here.at
asserted_by calling text n at found here after =
    look_by at (automatic_lead calling text here) found here after

abbrev pub settled : Bool → List ℕ → ℕ → ℕ → Result Item Fault → Result Assertion Fault
settled calling text n at (Ok (token, here, after)) = asserted_by calling text n at token here after
settled calling text n at (Err f) = Err (fault_of_test at f)

-- the lookaround that a conditional group at this place tests, past comments, ignored white space, `\Q` and `\E`
unfoldable pub assertion : Bool → List ℕ → ℕ → ℕ → State → Result Assertion Fault
assertion calling text n at st = settled calling text n at (item text false n st)

-- a conditional group that tests a lookaround
unfoldable pub assertions : Bool → List ℕ → ℕ → State → State → Result Beginning Fault
assertions calling text n st next = do
  (how, begun) ← opened st asserting next
  (ahead, positive, here, after, lead) ← assertion calling text n st.at begun
  (test, start) ← opened here (asserted ahead positive) after
  Ok (asserts how lead test start)

module _ (known : Known) (text : List ℕ) where
  -- By the names of the whole pattern, since a name may be given later than it is used: what begins at a token, from
  -- the state before it and the state after it. The number bounds the items of a class.
  abbrev pub beginning : ℕ → State → Token → State → Result Beginning Fault
  -- the alternative ends
  beginning n st token.End next = Ok over
  beginning n st token.Bar next = Ok over
  beginning n st token.Close next = Ok over
  -- characters, sets and classes
  beginning n st (token.Literal c) next = Ok (atom (one (item.Char c st.options.caseless)) next)
  beginning n st token.Dot next = Ok (atom (any_or_line st.options.dotall) next)
  beginning n st token.NotNewline next = Ok (atom (one item.NotNewline) next)
  beginning n st token.LineBreak next = Ok (atom line_break next)
  beginning n st (token.Set set outside) next = Ok (of_class (type_class st (part.Set set outside st.options.ucp)) next)
  beginning n st (token.Property from to outside) next =
      property_part (slice_range text from to) outside st.options.ucp st.at >>= λ p. Ok
      (of_class (type_class st p) next)
  beginning n st (token.ClassStart negated) next = class_spec text n negated next >>= λ (spec, after). Ok
      (of_class spec after)
  -- simple assertions and `\K`
  beginning n st token.Caret next = simple (kind.Caret st.options.multiline) next
  beginning n st token.Dollar next = simple (kind.Dollar st.options.multiline st.options.dollar_endonly) next
  beginning n st token.SubjectStart next = simple kind.SubjectStart next
  beginning n st token.SubjectEnd next = simple kind.SubjectEnd next
  beginning n st token.EndOrNewline next = simple kind.EndOrNewline next
  beginning n st token.StartGiven next = simple kind.StartGiven next
  beginning n st (token.Boundary opposite) next = simple (boundary opposite st.options.ucp) next
  beginning n st token.KeepOut next = if st.looking then fault 199 st.at else Ok (bare keep_out next)
  -- references
  beginning n st (token.Reference target) next = named_by known.names text st target >>= λ groups. Ok
      (with_reference st next groups)
  -- calls
  beginning n st (token.CallTo target) next = calls known.names text st target next
  -- groups
  beginning n st (token.Open opening.Capture) next =
      enters (if st.options.no_auto_capture then opened st (grouped None) next else captured st next)
  beginning n st (token.Open opening.Plain) next = enters (opened st (grouped None) next)
  beginning n st (token.Open opening.BranchReset) next = enters (reset st next)
  beginning n st (token.Open opening.Atomic) next = enters (opened st atomically next)
  beginning n st (token.Open (opening.Look ahead positive once)) next =
      enters (opened st (looks ahead positive once) next)
  beginning n st (token.Open (opening.Named from to)) next = enters (named st (slice_range text from to) next)
  beginning n st (token.OptionSet reset on off true) next =
      enters (opened st (grouped None) (record next { options = with_setting reset on off st.options }))
  beginning n st (token.CondStart tested.Lookaround from to) next = assertions known.calling text n st next
  beginning n st (token.CondStart cond from to) next =
      conditions known.names text st cond (slice_range text from to) next
  -- verbs
  beginning n st (token.VerbItem kind from to) next = verbs kind (slice_range text from to) st next
  -- what is no part
  beginning n st (token.OptionSet reset on off false) next =
      Ok (nothing (record next { options = with_setting reset on off st.options }))
  beginning n st token.Passed next = Ok (nothing next)
  beginning n st token.QuoteOn next = Ok (nothing (record next { quoting = true }))
  beginning n st token.QuoteOff next = Ok (nothing (record next { quoting = false }))
  -- a quantifier without an atom, and a start item that isn't at the start
  beginning n st (token.Quantifier low high mode) next = fault 109 st.at
  beginning n st (token.Start item) next = fault 160 st.at
  -- callouts
  beginning n st (token.CalloutItem number from to) next = callouts known.calling text number from to st next
  -- what stands in classes alone
  beginning n st _ next = fault 195 st.at
