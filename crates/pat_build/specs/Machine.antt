-- What the reader's state stands for: the rest of the reading.
use Rattle.std.specs.List.{list_any}
use Rattle.std.specs.Prelude.{true, false, ◌||◌, max, ◌≡◌, ℕ, ◌+◌, ◌-◌, ◌*◌, ◌<◌, ◌≤◌, Bool, List, [], ◌∷◌, ◌++◌}
use Rattle.std.specs.Prelude.{length, reverse, Option, Some, None, Result, Ok, All}
use Rattle.pat_tree.specs.declared.nodes.Placed.{Placed}
use Rattle.pat_tree.specs.declared.names.NameEntry.{NameEntry}
use Rattle.pat_tree.specs.Nested.{Nested, none, look, callout, tree_at, trees}
use Rattle.pat_tree.specs.Parts.{DraftParts}
use Rattle.pat_tree.specs.Refs.{refs, has_group}
use Rattle.pat_tree.specs.Growing.{Stand, loose}
use Rattle.pat_tree.specs.Closing.{StandInTurn}
use Rattle.token_parts.specs.declared.fault.Fault.{Fault}
use Rattle.token_parts.specs.declared.token.Token.{Token}
use Rattle.token_parts.specs.declared.token.Token.TheVariants.{End, Literal, Dot, NotNewline, LineBreak, Caret}
use Rattle.token_parts.specs.declared.token.Token.TheVariants.{Dollar, SubjectStart, SubjectEnd, EndOrNewline}
use Rattle.token_parts.specs.declared.token.Token.TheVariants.{StartGiven, Boundary}
use Rattle.token_parts.specs.declared.token.Token.TheVariants as token
use Rattle.token_parts.specs.Tell.{IsWell, ◌>>=◌}
use Rattle.pat_lex.specs.Tokens.{token_at}
use Rattle.pat_nodes.specs.declared.names.Name.{Name}
use Rattle.pat_nodes.specs.declared.frames.Level.{Level}
use Rattle.pat_nodes.specs.declared.frames.Frame.{Frame}
use Rattle.pat_nodes.specs.declared.frames.Atom.{Atom}
use Rattle.pat_nodes.specs.declared.frames.Form.TheVariants as kept
use Rattle.pat_grammar.specs.declared.alternatives.Bars.{Bars}
use Rattle.pat_grammar.specs.declared.alternatives.Bars.TheVariants as barring
use Rattle.pat_grammar.specs.declared.alternatives.Numbering.{Numbering}
use Rattle.pat_grammar.specs.declared.alternatives.Numbering.TheVariants.{Onward, Reset}
use Rattle.pat_nodes.specs.declared.frames.Inside.{Inside}
use Rattle.pat_build.specs.declared.machine.Machine.{Machine}
use Rattle.pat_grammar.specs.State.{State, Known, Reads, flags_of}
use Rattle.pat_grammar.specs.Groups.{Opening, Form, grouped, atomically, looks, conditional, defines, asserted}
use Rattle.pat_grammar.specs.Groups.{asserting, is_look, is_tested, bars_in, number_of, is_opened, places_named}
use Rattle.pat_grammar.specs.Groups.{missing}
use Rattle.pat_nodes.specs.Names.{Stands, with_given}
use Rattle.pat_grammar.specs.declared.cursor.Assertion.{Assertion}
use Rattle.pat_grammar.specs.Callouts.{automatic}
use Rattle.pat_grammar.specs.Parts.{Beginning, inside, asserts, beginning}
use Rattle.pat_grammar.specs.Leads.{lead_of}
use Rattle.pat_grammar.specs.Reading.{Parsed, reading, checked, state_from}
use Rattle.pat_build.specs.Stack.{Layer, Opened, Waiting, resume}
use Rattle.pat_nodes.specs.Nodes.{references_of, is_number, atom_tree, ids_of, IsAtom, form_of, HasTest}

abbrev pub ids_waiting : Option Atom → List ℕ
ids_waiting None = []
ids_waiting (Some a) = ids_of a

abbrev pub ids_in : Level → List ℕ
ids_in level = level.branches ++ level.parts

-- the nodes in progress, from the outermost group on
abbrev pub ids_held : List Frame → List ℕ
ids_held [] = []
ids_held (f ∷ fs) = ids_in f.outer ++ ids_held fs

abbrev pub opening_of : Frame → Opening
opening_of f = record {
  form = form_of f.form;
  around = f.around;
  looking = f.looking;
  bars = f.bars;
  numbering = f.numbering;
  at = f.at;
}

-- the number of the group, where it captures
abbrev pub number_in_frame : Frame → Option ℕ
number_in_frame f = number_of (form_of f.form)

-- the level stands for the layer, whose numbers are above this one
pub record LevelStands (ps : List Placed) (left : ℕ) (level : Level) (layer : Layer) : Type 0 where
  pub branches : Stand ps level.branches layer.branches
  pub parts : Stand ps level.parts layer.parts
  pub n : left < layer.n
  pub k : left < layer.k

pub record FrameStands (ps : List Placed) (left : ℕ) (f : Frame) (o : Opened) : Type 0 where
  pub how : o.how ≡ opening_of f
  pub outer : LevelStands ps left f.outer o.outer

-- the frames, the innermost first
abbrev pub StackStands : List Placed → ℕ → List Frame → List Opened → Type 0
StackStands ps left [] [] = Unit {0}
StackStands ps left [] (o ∷ os) = ⊥
StackStands ps left (f ∷ fs) [] = ⊥
StackStands ps left (f ∷ fs) (o ∷ os) = FrameStands ps left f o × StackStands ps left fs os

abbrev pub AtomStands : DraftParts → ℕ → Option Atom → Waiting → Type 0
AtomStands d left None waiting = waiting ≡ None
AtomStands d left (Some atom) waiting =
    IsAtom d atom × ((n : ℕ) × (left < n) × (waiting ≡ Some (n, atom_tree d.nodes atom)))

abbrev pub is_open : List Frame → ℕ → Bool
is_open fs n = list_any (λ f. is_number (number_in_frame f) n) fs

-- the greatest number that the earlier alternatives of a branch reset have given
abbrev pub greatest_of : Numbering → ℕ
greatest_of Onward = 0
greatest_of (Reset base greatest) = greatest

abbrev pub greatest_in : List Frame → ℕ
greatest_in [] = 0
greatest_in (f ∷ fs) = max (greatest_of f.numbering) (greatest_in fs)

-- the greatest number that was given
abbrev pub greatest_given : List Frame → Numbering → ℕ → ℕ
greatest_given fs numbering groups = max groups (max (greatest_of numbering) (greatest_in fs))

-- no alternative of a branch reset begins past the greatest number of those before
abbrev pub IsFair : Numbering → Type 0
IsFair Onward = Unit {0}
IsFair (Reset base greatest) = base ≤ greatest

-- how the top alternatives number groups
abbrev pub outermost : List Frame → Numbering → Numbering
outermost [] numbering = numbering
outermost (f ∷ fs) numbering = f.numbering

-- The groups of the nodes and those that are open have the numbers up to the greatest that was given.
pub record Numbers (ps : List Placed) (fs : List Frame) (numbering : Numbering) (groups : ℕ) : Type 0 where
  pub each : (n : ℕ) → (has_group ps n || is_open fs n) ≡ is_opened (greatest_given fs numbering groups) n
  pub fair : IsFair numbering
  pub all_fair : All (λ f. IsFair f.numbering) fs
  pub onward : outermost fs numbering ≡ Onward

-- the name is of a group that was opened
abbrev pub IsGiven : ℕ → NameEntry → Type 0
IsGiven greatest entry = (1 ≤ entry.group) × (entry.group ≤ greatest)

-- the group has so many alternatives before the one in progress, and may have those that this says
abbrev pub IsBarred : Form → ℕ → Bars → Type 0
IsBarred (grouped number) n bars = bars ≡ barring.Free
IsBarred atomically n bars = bars ≡ barring.Free
IsBarred (looks ahead positive once) n bars = bars ≡ barring.Free
IsBarred (conditional test) n barring.First = n ≡ 0
IsBarred (conditional test) n barring.Second = n ≡ 1
IsBarred (conditional test) n barring.Free = ⊥
IsBarred (conditional test) n barring.Define = ⊥
IsBarred defines n bars = (n ≡ 0) × (bars ≡ barring.Define)
IsBarred (asserted ahead positive) n bars = bars ≡ barring.Free
IsBarred asserting n barring.First = n ≡ 1
IsBarred asserting n barring.Second = n ≡ 2
IsBarred asserting n barring.Free = ⊥
IsBarred asserting n barring.Define = ⊥

-- where the group ends, the group around it has so many: a lookaround that is tested is one
abbrev pub count_around : Bool → ℕ → ℕ
count_around true n = n + 1
count_around false n = n

-- so it is in each group that is open, the innermost first
abbrev pub AreBarred : List Frame → ℕ → Bars → Type 0
AreBarred [] n bars = bars ≡ barring.Free
AreBarred (f ∷ fs) n bars =
    let tested = is_tested (form_of f.form) in
    IsBarred (form_of f.form) n bars × AreBarred fs (count_around tested (length f.outer.branches)) f.bars

-- before a lookaround that is tested the group around it has a callout at most
abbrev pub IsLead : Bool → List Nested → Type 0
IsLead true [] = Unit {0}
IsLead true (callout c ∷ []) = Unit {0}
IsLead true _ = ⊥
IsLead false parts = Unit {0}

-- where the group ends, the group around it has these: some lookaround where it is one that is tested
abbrev pub branches_around : Bool → List Nested → List Nested
branches_around true ts = ts ++ look true true true none ∷ []
branches_around false ts = ts

-- so it is in each group that is open, the innermost first
abbrev pub HaveTests : List Opened → List Nested → Type 0
HaveTests [] ts = Unit {0}
HaveTests (o ∷ os) ts =
    let tested = is_tested o.how.form in
    HasTest o.how.form ts
    × HaveTests os (branches_around tested o.outer.branches)
    × IsLead tested o.outer.parts

-- a group that has nothing to do with a lookaround that is tested
abbrev pub TestsNone : Form → Type 0
TestsNone (asserted ahead positive) = ⊥
TestsNone asserting = ⊥
TestsNone _ = Unit {0}

-- how a group that begins is numbered
abbrev pub Numbered : ℕ → Option ℕ → Numbering → ℕ → Type 0
Numbered groups None Onward after = after ≡ groups
Numbered groups None (Reset base greatest) after = (base ≡ groups) × (greatest ≡ groups) × (after ≡ groups)
Numbered groups (Some m) Onward after = (m ≡ groups + 1) × (after ≡ groups + 1)
Numbered groups (Some m) (Reset base greatest) after = ⊥

-- the name that a group gets
abbrev pub Gives : List ℕ → ℕ → Option Name → ℕ → Type 0
Gives text groups None after = Unit {0}
Gives text groups (Some name) after = Stands text name × (name.group ≡ groups + 1) × (after ≡ groups + 1)

abbrev pub state_of : Machine → State
state_of m = record {
  at = m.at;
  quoting = m.quoting;
  options = m.options;
  groups = m.groups;
  depth = length m.stack.items;
  looking = m.looking;
  bars = m.bars;
  numbering = m.numbering;
  classes = m.draft.classes;
  names = m.draft.names;
  verb_names = m.draft.verb_names;
  references = references_of m.draft.nodes;
  beyond = m.beyond;
  called = m.called;
}

-- what begins where a group of this form does, with this name, if it gets one
abbrev pub inside_from : Machine → Form → Option Name → Inside → Beginning
inside_from m form given start = inside
    (record { form = form; around = m.options; looking = m.looking; bars = m.bars; numbering = m.numbering; at = m.at })
    (record (state_of m) {
      at = start.at;
      options = start.options;
      groups = start.groups;
      depth = length m.stack.items + 1;
      looking = is_look form || m.looking;
      bars = bars_in form;
      numbering = start.numbering;
      names = with_given m.text.now given m.draft.names;
      beyond = start.beyond;
    })

-- what begins where a conditional group tests a lookaround
abbrev pub asserting_from : Machine → Assertion → Beginning
asserting_from m test = asserts
    (record {
      form = asserting;
      around = m.options;
      looking = m.looking;
      bars = m.bars;
      numbering = m.numbering;
      at = m.at;
    })
    (lead_of test.lead)
    (record {
      form = asserted test.ahead test.positive;
      around = m.options;
      looking = m.looking;
      bars = barring.First;
      numbering = Onward;
      at = test.here.at;
    })
    (record (state_of m) {
      at = test.after.at;
      quoting = test.after.quoting;
      depth = length m.stack.items + 2;
      looking = true;
      bars = barring.Free;
      numbering = Onward;
    })

-- the frame of a lookaround that a conditional group tests, with these parts before it
abbrev pub tested_frame : Machine → Assertion → List ℕ → Frame
tested_frame m test lead = record {
  form = kept.Asserted test.ahead test.positive;
  around = m.options;
  looking = m.looking;
  bars = barring.First;
  numbering = Onward;
  at = test.here.at;
  outer = record { branches = []; parts = lead };
}

abbrev pub known_of : Machine → Known
known_of m = record { names = m.known.now; calling = m.calling }

-- the reading of the whole pattern
abbrev pub whole_of : Machine → Reads Nested
whole_of m = reading (known_of m) m.text.now (state_from m.start m.draft.options)

-- what a pattern is read as, by the names of the whole pattern, from the place after the start items on
abbrev pub tree_with : Known → List ℕ → State → Result Parsed Fault
tree_with known text st = reading known text st >>= λ (tree, last). checked st.options last.beyond
    (missing last.groups last.references) tree last

-- twice the bytes that are left
abbrev pub left_at : List ℕ → ℕ → ℕ
left_at text at = 2 * (length text - at)

abbrev pub left : Machine → ℕ
left m = left_at m.text.now m.at

-- What the machine holds stands for the rest of the reading of the whole text.
pub record Means (m : Machine) : Type 0 where
  pub opens : List Opened
  pub layer : Layer
  pub waiting : Waiting
  pub stack : StackStands m.draft.nodes (left m) (reverse m.stack.items) opens
  pub level : LevelStands m.draft.nodes (left m) m.level layer
  pub pending : AtomStands m.draft (left m) m.waiting waiting
  pub barred : AreBarred (reverse m.stack.items) (length m.level.branches) m.bars
  pub tested : HaveTests opens layer.branches
  pub value : resume (known_of m) m.text.now opens layer waiting (state_of m) ≡ whole_of m
  pub within : m.at ≤ length m.text.now
  pub short : length m.text.now ≤ 65536
  pub depth : length m.stack.items ≤ 250
  pub classes : length m.draft.classes ≤ m.at
  pub named : All (IsGiven (greatest_given m.stack.items m.numbering m.groups)) m.draft.names
  pub names : length m.draft.names ≤ m.at
  pub verb_names : length m.draft.verb_names ≤ m.at
  pub refs_are : refs m.draft.nodes ≡ places_named (references_of m.draft.nodes)
  pub loose_is : loose m.draft.nodes ≡ ids_held m.stack.items ++ (ids_in m.level ++ ids_waiting m.waiting)
  pub turns : StandInTurn m.draft.nodes
  pub numbers : Numbers m.draft.nodes m.stack.items m.numbering m.groups

-- the draft has room for the nodes of the tokens that are left
abbrev pub HasRoom : ℕ → Machine → Type 0
HasRoom more m = length m.draft.nodes ≤ 5 * m.at + more

-- the token at the place
pub record IsNext (token : Token) (after : ℕ) (m : Machine) : Type 0 where
  pub token_is : token_at m.text.now (flags_of false (state_of m)) m.at ≡ Ok (token, after)
  pub goes : m.at < after
  pub within : after ≤ length m.text.now
  pub well : IsWell m.text.now token

-- no automatic callout is due
abbrev pub IsQuiet : Machine → Type 0
IsQuiet m = automatic m.calling m.text.now (state_of m) ≡ None

-- The token has been read, and what waited is a part: the machine can take the token in.
pub record Ready (token : Token) (after : ℕ) (m : Machine) : Type 0 where
  pub means : Means m
  pub idle : m.waiting ≡ None
  pub there : IsNext token after m
  pub room : HasRoom 2 m
  pub quiet : IsQuiet m

-- what begins at a token, where the number that bounds the items of a class is enough for the bytes that are left
abbrev pub Begins : Machine → Token → ℕ → Result Beginning Fault → Type 0
Begins m token after what =
    (n : ℕ) → left_at m.text.now after + 1 < n → beginning (known_of m) m.text.now n (state_of m) token
    (record (state_of m) { at = after }) ≡ what

-- the same reading is done
pub record Same (old new : Machine) : Type 0 where
  pub text : new.text.now ≡ old.text.now
  pub options : new.draft.options ≡ old.draft.options
  pub whole : whole_of new ≡ whole_of old

-- The token has been taken in.
pub record Took (old new : Machine) : Type 0 where
  pub means : Means new
  pub room : HasRoom 0 new
  pub goes : old.at < new.at
  pub same : Same old new

-- a token that is no end
abbrev pub IsMore : Token → Type 0
IsMore End = ⊥
IsMore _ = Unit {0}

-- a simple assertion
abbrev pub IsAssertion : Token → Type 0
IsAssertion Caret = Unit {0}
IsAssertion Dollar = Unit {0}
IsAssertion SubjectStart = Unit {0}
IsAssertion SubjectEnd = Unit {0}
IsAssertion EndOrNewline = Unit {0}
IsAssertion StartGiven = Unit {0}
IsAssertion (Boundary opposite) = Unit {0}
IsAssertion _ = ⊥

-- a character, a type or `\R`
abbrev pub IsCharacter : Token → Type 0
IsCharacter (Literal c) = Unit {0}
IsCharacter Dot = Unit {0}
IsCharacter NotNewline = Unit {0}
IsCharacter LineBreak = Unit {0}
IsCharacter (token.Set set outside) = Unit {0}
IsCharacter _ = ⊥

-- The text has been read: the tree has this number, and the last state is that of the machine.
pub record Ends (old new : Machine) (id : ℕ) : Type 0 where
  pub is : whole_of old ≡ Ok (tree_at (trees new.draft.nodes) id, state_of new)
  pub groups : (n : ℕ) → has_group new.draft.nodes n ≡ is_opened new.groups n
  pub turns : StandInTurn new.draft.nodes
  pub refs_are : refs new.draft.nodes ≡ places_named (references_of new.draft.nodes)
  pub text : new.text.now ≡ old.text.now
  pub named : All (IsGiven new.groups) new.draft.names
  pub options : new.draft.options ≡ old.draft.options
