-- Groups, their numbers and their names (pcre2pattern, "Groups", "Named capture groups", "Backreferences").
use Rattle.std.specs.Prelude.{ℕ, zero, suc, ◌+◌, ◌-◌, Bool, true, false, not, ◌&&◌, ◌||◌, ◌==◌, max, nat_le, nat_lt}
use Rattle.std.specs.Prelude.{List, [], ◌∷◌, map, filter, flat_map, Option, Some, None, Result, Ok, slice_range}
use Rattle.std.specs.Prelude.{if◌then◌else◌}
use Rattle.std.specs.List.{list_any}
use Rattle.std.specs.Str.{bytes_eq}
use Rattle.pat_tree.specs.declared.options.Options.{Options}
use Rattle.pat_tree.specs.declared.names.NameEntry.{NameEntry}
use Rattle.pat_tree.specs.Nested.{Nested, Test, empty, group, atomic, look, condition, any_set, in_call, in_call_of}
use Rattle.pat_tree.specs.Nested.{never, no_other, other, row, test_of}
use Rattle.pat_tree.specs.Names.{with_name}
use Rattle.pat_tree.specs.Refs.{bad_ref, beside_whole}
use Rattle.token_parts.specs.declared.fault.Fault.{Fault}
use Rattle.token_parts.specs.declared.token.Target.{Target}
use Rattle.token_parts.specs.declared.token.Target.TheVariants.{Number, Plus, Minus, Named}
use Rattle.token_parts.specs.Tell.{fault, ◌>>=◌}
use Rattle.token_parts.specs.declared.token.CondText.{CondText}
use Rattle.token_parts.specs.declared.token.CondText.TheVariants as tested
use Rattle.pat_grammar.specs.declared.alternatives.Bars.{Bars}
use Rattle.pat_grammar.specs.declared.alternatives.Bars.TheVariants as bars
use Rattle.pat_grammar.specs.declared.alternatives.Numbering.{Numbering}
use Rattle.pat_grammar.specs.declared.alternatives.Numbering.TheVariants.{Onward, Reset}
use Rattle.pat_grammar.specs.State.{State, Reference}

-- what a group is
pub data Form : Type 0 where
  -- its number where it captures
  grouped : Option ℕ → Form
  atomically : Form
  -- a lookaround: ahead, positive, atomic
  looks : Bool → Bool → Bool → Form
  -- a conditional group, and one that only defines
  conditional : Test → Form
  defines : Form
  -- a lookaround that a conditional group tests (ahead, positive), and that group, of whose branches it is the first
  asserted : Bool → Bool → Form
  asserting : Form

abbrev pub number_of : Form → Option ℕ
number_of (grouped number) = number
number_of atomically = None
number_of (looks ahead positive once) = None
number_of (conditional test) = None
number_of defines = None
number_of (asserted ahead positive) = None
number_of asserting = None

abbrev pub is_look : Form → Bool
is_look (grouped number) = false
is_look atomically = false
is_look (looks ahead positive once) = true
is_look (conditional test) = false
is_look defines = false
is_look (asserted ahead positive) = true
is_look asserting = false

-- a lookaround that a conditional group tests
abbrev pub is_tested : Form → Bool
is_tested (asserted ahead positive) = true
is_tested _ = false

-- a conditional group of these branches
abbrev pub branched : Test → List Nested → Nested
branched test [] = condition test empty no_other
branched test (yes' ∷ []) = condition test yes' no_other
branched test (yes' ∷ no' ∷ others) = condition test yes' (other no')

-- a conditional group of these branches, the first of which is its test
abbrev pub tested_by : List Nested → Nested
tested_by [] = branched never []
tested_by (test ∷ branches) = branched (test_of test) branches

-- a group of these branches
abbrev pub built : Form → List Nested → Nested
built (grouped number) branches = group number (row branches)
built atomically branches = atomic (row branches)
built (looks ahead positive once) branches = look ahead positive once (row branches)
built (conditional test) branches = branched test branches
built defines branches = branched never branches
built (asserted ahead positive) branches = look ahead positive true (row branches)
built asserting branches = tested_by branches

-- the alternatives that a group may have: DEFINE has one, any other conditional group two
abbrev pub bars_in : Form → Bars
bars_in (grouped number) = bars.Free
bars_in atomically = bars.Free
bars_in (looks ahead positive once) = bars.Free
bars_in (conditional test) = bars.First
bars_in defines = bars.Define
bars_in (asserted ahead positive) = bars.Free
bars_in asserting = bars.First

-- what is so after a bar, if there may be one
abbrev pub barred : Bars → ℕ → Result Bars Fault
barred bars.Free at = Ok bars.Free
barred bars.First at = Ok bars.Second
barred bars.Second at = fault 127 at
barred bars.Define at = fault 154 at

-- How the next alternative numbers its groups, where so many are opened; and how many stand before it, and before what
-- follows the last alternative. In a branch reset each begins at the same number, and after it the greatest goes on.
abbrev pub next_numbering : Numbering → ℕ → Numbering
next_numbering Onward groups = Onward
next_numbering (Reset base greatest) groups = Reset base (max greatest groups)

abbrev pub groups_before : Numbering → ℕ → ℕ
groups_before Onward groups = groups
groups_before (Reset base greatest) groups = base

abbrev pub groups_after : Numbering → ℕ → ℕ
groups_after Onward groups = groups
groups_after (Reset base greatest) groups = max greatest groups

-- the state after a bar, where the next alternative begins
abbrev pub restarted : State → Bars → State → State
restarted st bars after = record after {
  bars = bars;
  numbering = next_numbering st.numbering st.groups;
  groups = groups_before st.numbering st.groups;
}

-- a group whose inside is read: what holds around it (the options, whether that is inside a lookaround, the
-- alternatives that the group around may still have and how they number groups), and its place
pub record Opening : Type 0 where
  pub form : Form
  pub around : Options
  pub looking : Bool
  pub bars : Bars
  pub numbering : Numbering
  pub at : ℕ

-- the groups that a test names
abbrev pub groups_in : Test → List ℕ
groups_in (any_set ns) = ns
groups_in (in_call_of ns) = beside_whole ns
groups_in _ = []

-- where a lookaround or a condition stands
abbrev pub noted : Form → ℕ → List Reference
noted (grouped number) at = []
noted atomically at = []
noted (looks ahead positive once) at = record { at = at; groups = [] } ∷ []
noted (conditional test) at = record { at = at; groups = groups_in test } ∷ []
noted defines at = record { at = at; groups = [] } ∷ []
noted (asserted ahead positive) at = record { at = at; groups = [] } ∷ []
noted asserting at = record { at = at; groups = [] } ∷ []

-- the group and the state in which its inside begins
abbrev pub Opens : Type 0
Opens = Result (Opening × State) Fault

abbrev pub has_name : List ℕ → NameEntry → Bool
has_name name entry = bytes_eq entry.name name

-- a group of another number has the name
abbrev pub is_elsewhere : List ℕ → ℕ → NameEntry → Bool
is_elsewhere name number entry = has_name name entry && not (entry.group == number)

-- a group of this number has another name
abbrev pub is_other : List ℕ → ℕ → NameEntry → Bool
is_other name number entry = entry.group == number && not (has_name name entry)

-- One more parenthesis than `st` has open. The state after the parenthesis is given.
unfoldable pub opened : State → Form → State → Opens
opened st form after =
    if nat_le 250 st.depth then fault 119 st.at
    else Ok (
      record {
        form = form;
        around = st.options;
        looking = st.looking;
        bars = st.bars;
        numbering = st.numbering;
        at = st.at;
      },
      record after {
        depth = st.depth + 1;
        looking = is_look form || st.looking;
        bars = bars_in form;
        numbering = Onward;
      },
    )

-- a capturing group has the next number
unfoldable pub captured : State → State → Opens
captured st after = opened st (grouped (Some (st.groups + 1))) (record after { groups = st.groups + 1 }) >>= λ group.
    if nat_le 65535 st.groups then fault 161 st.at else Ok group

-- A name that a group of another number has needs DUPNAMES, and groups of one number have one name.
unfoldable pub named : State → List ℕ → State → Opens
named st name after =
    captured st (record after { names = with_name (record { name = name; group = st.groups + 1 }) st.names }) >>=
    λ group.
    if not st.options.dupnames && list_any (is_elsewhere name (st.groups + 1)) st.names then fault 143 st.at
    else if list_any (is_other name (st.groups + 1)) st.names then fault 165 st.at
    else Ok group

-- a branch reset
unfoldable pub reset : State → State → Opens
reset st after = opened st (grouped None) after >>= λ (how, begun). Ok
    (how, record begun { numbering = Reset st.groups st.groups })

-- No group has the number 0: it stands for what names no group.
abbrev pub or_none : List ℕ → List ℕ
or_none [] = 0 ∷ []
or_none (n ∷ ns) = n ∷ ns

-- the groups of a name
unfoldable pub groups_of : List NameEntry → List ℕ → List ℕ
groups_of known name = or_none (map (λ entry. entry.group) (filter (has_name name) known))

-- The groups that a reference names, by the names of the whole pattern. Groups are counted on and back from the last
-- that was opened; too far back is no group.
unfoldable pub named_by : List NameEntry → List ℕ → State → Target → Result (List ℕ) Fault
named_by known text st (Number n) = Ok (n ∷ [])
named_by known text st (Plus n) = if nat_lt 65535 (st.groups + n) then fault 161 st.at else Ok ((st.groups + n) ∷ [])
named_by known text st (Minus n) = Ok ((st.groups + 1 - n) ∷ [])
named_by known text st (Named from to) = Ok (groups_of known (slice_range text from to))

-- A group that is named `R` or `Rn` takes a test of that text.
unfoldable pub unless_named : List NameEntry → List ℕ → Test → Test
unless_named known word test = if list_any (has_name word) known then any_set (groups_of known word) else test

-- the number of a call that is tested, which stands for the whole pattern where no group can have it
abbrev pub called_number : ℕ → ℕ
called_number n = if nat_lt 65535 n then 0 else n

-- In a test of a call 0 is the whole pattern: a name that no group has is told as where a group is tested.
abbrev pub called_by : List ℕ → Test
called_by [] = in_call_of []
called_by (zero ∷ ns) = any_set (zero ∷ ns)
called_by (suc n ∷ ns) = in_call_of (suc n ∷ ns)

-- the test is no lookaround
abbrev pub IsWorded : CondText → Type 0
IsWorded tested.Lookaround = ⊥
IsWorded _ = Unit {0}

-- a conditional group by the text of its test
unfoldable pub form_in : List NameEntry → List ℕ → State → CondText → List ℕ → Result Form Fault
form_in known text st (tested.Group target) word = named_by known text st target >>= λ groups. Ok
    (conditional (any_set groups))
form_in known text st tested.InCall word = Ok (conditional (unless_named known word in_call))
form_in known text st (tested.InCallOf (Number n)) word =
    Ok (conditional (unless_named known word (in_call_of (called_number n ∷ []))))
form_in known text st (tested.InCallOf target) word =
    named_by known text st target >>= λ groups. Ok (conditional (called_by groups))
form_in known text st tested.Define word = Ok defines
form_in known text st tested.Lookaround word = fault 128 st.at

-- the test asks for a call of a group whose number is too big, and no group has that text as its name
unfoldable pub is_beyond : List NameEntry → CondText → List ℕ → Bool
is_beyond known (tested.InCallOf (Number n)) word = nat_lt 65535 n && not (list_any (has_name word) known)
is_beyond known _ word = false

abbrev pub first_of : Option ℕ → ℕ → Option ℕ
first_of None at = Some at
first_of (Some first) at = Some first

abbrev pub beyond_after : List NameEntry → State → CondText → List ℕ → Option ℕ
beyond_after known st cond word = if is_beyond known cond word then first_of st.beyond st.at else st.beyond

-- each group that a reference names, with the reference's place
unfoldable pub places_named : List Reference → List (ℕ × ℕ)
places_named references = flat_map (λ r. map (λ n. (r.at, n)) r.groups) references

abbrev pub is_opened : ℕ → ℕ → Bool
is_opened groups n = nat_le 1 n && nat_le n groups

-- the leftmost reference that names no group, where so many groups were opened
unfoldable pub missing : ℕ → List Reference → Option ℕ
missing groups references = bad_ref (is_opened groups) (places_named references)
