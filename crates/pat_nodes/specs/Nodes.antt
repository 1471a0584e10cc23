-- What nodes of a draft stand for, and what it becomes as nodes are added.
use Rattle.std.specs.Prelude.{true, false, ◌||◌, ◌==◌, ◌≡◌, ℕ, ◌+◌, ◌<◌, ◌≤◌, Bool, List, [], ◌∷◌, ◌++◌, length, map}
use Rattle.std.specs.Prelude.{Option, Some, None, All, IsTrue}
use Rattle.pat_tree.specs.declared.nodes.Placed.{Placed}
use Rattle.pat_tree.specs.declared.nodes.Cond.{Cond}
use Rattle.pat_tree.specs.declared.nodes.Cond.TheVariants as cond
use Rattle.pat_tree.specs.declared.nodes.Node.TheVariants as node
use Rattle.pat_tree.specs.Nested.{Nested, Test, one, repeat, verb, any_set, in_call, in_call_of, tree_at, trees}
use Rattle.pat_tree.specs.Parts.{DraftParts, TreeParts, with_node}
use Rattle.pat_tree.specs.Pattern.{pattern_of}
use Rattle.pat_tree.specs.Refs.{refs, has_group, beside_whole, named_in}
use Rattle.pat_tree.specs.Rules.{class_in, is_test}
use Rattle.pat_tree.specs.Growing.{Stand, Makes, Replaces, loose}
use Rattle.pat_tree.specs.Closing.{StandInTurn}
use Rattle.token_parts.specs.declared.token.VerbKind.{VerbKind}
use Rattle.pat_nodes.specs.declared.frames.Level.{Level}
use Rattle.pat_nodes.specs.declared.frames.Atom.{Atom}
use Rattle.pat_nodes.specs.declared.frames.Atom.TheVariants.{Single, Whole, Look}
use Rattle.pat_nodes.specs.declared.frames.Form as machine
use Rattle.pat_nodes.specs.declared.frames.Form.TheVariants as kept
use Rattle.pat_nodes.specs.declared.frames.Test as machine_test
use Rattle.pat_nodes.specs.declared.frames.Test.TheVariants as tested
use Rattle.pat_grammar.specs.State.{Reference}
use Rattle.pat_grammar.specs.Groups.{Form, grouped, atomically, looks, conditional, defines, asserted, asserting}
use Rattle.pat_grammar.specs.Groups.{is_look, number_of, noted, places_named}
use Rattle.pat_grammar.specs.Verbs.{verb_of, number_of_name, names_after}
use Rattle.pat_grammar.specs.Parts.{alternative, once_more, repeat_of}
use Rattle.pat_grammar.specs.Reading.{Parsed}

-- the references, calls, lookarounds and conditions among the nodes, in the order of adding
abbrev pub reference_in : Placed → List Reference
reference_in p = elim (p.node) [
  | node.Ref groups caseless ↦ record { at = p.at; groups = groups } ∷ []
  | node.Call n ↦ record { at = p.at; groups = beside_whole (n ∷ []) } ∷ []
  | node.Look ahead positive once branches ↦ record { at = p.at; groups = [] } ∷ []
  | node.Cond test yes' no' ↦ record { at = p.at; groups = named_in test } ∷ []
  | _ ↦ []
]

unfoldable pub references_of : List Placed → List Reference
references_of [] = []
references_of (p ∷ ps) = reference_in p ++ references_of ps

-- what a tree says of its pattern
abbrev pub parsed_of : TreeParts → Parsed
parsed_of t = record { pattern = pattern_of t; names = t.names; places = map (λ r. r.at) (references_of t.nodes) }

abbrev pub is_number : Option ℕ → ℕ → Bool
is_number None n = false
is_number (Some m) n = m == n

-- The draft has more nodes, among which no capturing group, reference, call, lookaround and condition is.
pub record Adds (old new : DraftParts) : Type 0 where
  pub options : new.options ≡ old.options
  pub classes : new.classes ≡ old.classes
  pub names : new.names ≡ old.names
  pub verb_names : new.verb_names ≡ old.verb_names
  pub references : references_of new.nodes ≡ references_of old.nodes
  pub refs_are : refs new.nodes ≡ refs old.nodes
  pub groups : (n : ℕ) → has_group new.nodes n ≡ has_group old.nodes n
  pub turns : StandInTurn old.nodes → StandInTurn new.nodes

-- The draft has more nodes: a group that began at this place, and others that are no such node.
pub record Closes (old new : DraftParts) (form : Form) (at : ℕ) : Type 0 where
  pub options : new.options ≡ old.options
  pub classes : new.classes ≡ old.classes
  pub names : new.names ≡ old.names
  pub verb_names : new.verb_names ≡ old.verb_names
  pub references : references_of new.nodes ≡ references_of old.nodes ++ noted form at
  pub refs_are : refs new.nodes ≡ refs old.nodes ++ places_named (noted form at)
  pub groups : (n : ℕ) → has_group new.nodes n ≡ (has_group old.nodes n || is_number (number_of form) n)
  pub turns : StandInTurn old.nodes → StandInTurn new.nodes

-- the table has the name of a verb more, unless it is empty, and this is its number
abbrev pub NamesVerb : DraftParts → DraftParts → List ℕ → Option ℕ → Type 0
NamesVerb old new name number =
    (new ≡ record old { verb_names = names_after old.verb_names name })
    × (number ≡ number_of_name old.verb_names name)

-- the node of a verb of this name, which is a new entry of these
abbrev pub verb_node : VerbKind → List (List ℕ) → List ℕ → ℕ → Placed
verb_node kind names name at = record {
  node = node.VerbNode (verb_of kind (number_of_name names name));
  at = at;
}

-- the draft has the node of a verb more, and its name
pub record AddsVerb (old new : DraftParts) (kind : VerbKind) (name : List ℕ) (at id : ℕ) : Type 0 where
  pub is : new
      ≡ with_node (record old { verb_names = names_after old.verb_names name })
      (verb_node kind old.verb_names name at)
  pub makes : Makes old.nodes new.nodes id (verb (verb_of kind (number_of_name old.verb_names name)))
  pub replaces : Replaces old.nodes [] new.nodes id
  pub groups : (n : ℕ) → has_group new.nodes n ≡ (has_group old.nodes n || false)

-- no one-item atom and no lookaround
pub record IsMany (t : Nested) : Type 0 where
  pub many : (low : ℕ) (high : Option ℕ) (lazy : Bool) → repeat_of low high lazy t ≡ repeat t low high lazy

-- a lookaround
pub record IsLooking (t : Nested) : Type 0 where
  pub looks : (low : ℕ) (high : Option ℕ) (lazy : Bool)
      → repeat_of low high lazy t ≡ repeat t low (once_more low high) lazy

abbrev pub atom_tree : List Placed → Atom → Nested
atom_tree ps (Single item at) = one item
atom_tree ps (Whole id at) = tree_at (trees ps) id
atom_tree ps (Look id at) = tree_at (trees ps) id

-- a lookaround of this node, or another group, before a quantifier
abbrev pub atom_where : Bool → ℕ → ℕ → Atom
atom_where true id at = Look id at
atom_where false id at = Whole id at

abbrev pub atom_of : Form → ℕ → ℕ → Atom
atom_of form id at = atom_where (is_look form) id at

-- the node of the atom, where it has one
abbrev pub ids_of : Atom → List ℕ
ids_of (Single item at) = []
ids_of (Whole id at) = id ∷ []
ids_of (Look id at) = id ∷ []

-- the atom has a node, or needs none
abbrev pub IsAtom : DraftParts → Atom → Type 0
IsAtom d (Single item at) = All (λ n. n < length d.classes) (class_in item)
IsAtom d (Whole id at) = (id < length d.nodes) × IsMany (tree_at (trees d.nodes) id)
IsAtom d (Look id at) = (id < length d.nodes) × IsLooking (tree_at (trees d.nodes) id)

abbrev pub test_of : machine_test.Test → Test
test_of (tested.AnySet groups) = any_set groups
test_of tested.InCall = in_call
test_of (tested.InCallOf groups) = in_call_of groups

-- the test as a node has it
abbrev pub cond_in : machine_test.Test → Cond
cond_in (tested.AnySet groups) = cond.AnySet groups
cond_in tested.InCall = cond.InCall
cond_in (tested.InCallOf groups) = cond.InCallOf groups

abbrev pub form_of : machine.Form → Form
form_of (kept.Group number) = grouped number
form_of kept.Atomic = atomically
form_of (kept.Look ahead positive once) = looks ahead positive once
form_of (kept.Condition test) = conditional (test_of test)
form_of kept.Define = defines
form_of (kept.Asserted ahead positive) = asserted ahead positive
form_of kept.Asserting = asserting

-- a level has one alternative more, which is this node after the parts that stood there
pub record TestsIn (old new : List Placed) (before after : Level) (id : ℕ) : Type 0 where
  pub test : ℕ
  pub makes : Makes old new test (alternative (map (tree_at (trees old)) (before.parts ++ id ∷ [])))
  pub replaces : Replaces old (before.parts ++ id ∷ []) new test
  pub is : after ≡ record { branches = before.branches ++ test ∷ []; parts = [] }

-- a draft has these parts more, behind those that stood there
pub record Follow (old new : DraftParts) (before after : List ℕ) (parts : List Nested) : Type 0 where
  pub stand : (ts : List Nested) → Stand old.nodes before ts → Stand new.nodes after (ts ++ parts)
  pub loose_is : loose old.nodes ≡ before → loose new.nodes ≡ after
  pub adds : Adds old new
  pub count : length new.nodes ≤ length old.nodes + 1

-- a group of this form can have so many alternatives
abbrev pub CanHave : Form → ℕ → Type 0
CanHave (conditional test) n = (0 < n) × (n ≤ 2)
CanHave defines n = n ≡ 1
CanHave asserting n = (1 < n) × (n ≤ 3)
CanHave _ n = Unit {0}

-- the first alternative of a group that tests a lookaround is that lookaround
abbrev pub HasTest : Form → List Nested → Type 0
HasTest asserting [] = ⊥
HasTest asserting (t ∷ ts) = IsTrue (is_test t)
HasTest _ ts = Unit {0}
