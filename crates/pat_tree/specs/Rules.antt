-- What a node names, and the rules that each node keeps.
use Rattle.std.specs.Prelude.{◌≡◌, ◌≤◌, ℕ, ◌<◌, Bool, true, false, List, [], ◌∷◌, ◌++◌, length, Option, Some, None}
use Rattle.pat_tree.specs.declared.nodes.Item.{Item}
use Rattle.pat_tree.specs.declared.nodes.Item.TheVariants as item
use Rattle.pat_tree.specs.declared.nodes.Verb.{Verb}
use Rattle.pat_tree.specs.declared.nodes.Verb.TheVariants as verb
use Rattle.pat_tree.specs.declared.nodes.Cond.{Cond}
use Rattle.pat_tree.specs.declared.nodes.Cond.TheVariants.{Never, Assert}
use Rattle.pat_tree.specs.declared.nodes.Node.{Node}
use Rattle.pat_tree.specs.declared.nodes.Node.TheVariants as node
use Rattle.pat_tree.specs.Nested.{Nested, seq, more, none, callout, look}

abbrev pub number_in : Option ℕ → List ℕ
number_in None = []
number_in (Some n) = n ∷ []

-- the node of a condition that is a lookaround
abbrev pub tests_of : Cond → List ℕ
tests_of (Assert k) = k ∷ []
tests_of _ = []

-- the children of a node: of a condition its test's, the first branch's and the second's
abbrev pub kids_of : Node → List ℕ
kids_of node.Empty = []
kids_of (node.One item) = []
kids_of node.Break = []
kids_of (node.Seq kids) = kids
kids_of (node.Group number branches) = branches
kids_of (node.Repeat body min max lazy) = body ∷ []
kids_of (node.OneRepeat item min max lazy) = []
kids_of (node.Atomic branches) = branches
kids_of (node.Look ahead positive once branches) = branches
kids_of (node.Cond test yes' no') = tests_of test ++ yes' ∷ number_in no'
kids_of (node.Call n) = []
kids_of (node.Ref groups caseless) = []
kids_of (node.Anchor kind) = []
kids_of node.KeepOut = []
kids_of (node.VerbNode v) = []
kids_of (node.Callout number from to at len) = []

-- the nodes that stand as the test of a condition
abbrev pub asserted_by : Node → List ℕ
asserted_by (node.Cond test yes' no') = tests_of test
asserted_by _ = []

-- the class of an item
abbrev pub class_in : Item → List ℕ
class_in (item.Class n) = n ∷ []
class_in _ = []

abbrev pub classes_of : Node → List ℕ
classes_of (node.One i) = class_in i
classes_of (node.OneRepeat i min max lazy) = class_in i
classes_of _ = []

-- the number of a verb's name
abbrev pub name_in : Verb → List ℕ
name_in (verb.Accept name) = number_in name
name_in (verb.Fail name) = number_in name
name_in (verb.Commit name) = number_in name
name_in (verb.Prune name) = number_in name
name_in (verb.Skip name) = number_in name
name_in (verb.Then name) = number_in name
name_in (verb.Mark name) = number_in name

abbrev pub verb_names_of : Node → List ℕ
verb_names_of (node.VerbNode v) = name_in v
verb_names_of _ = []

-- the number of a capturing group
abbrev pub numbers_of : Node → List ℕ
numbers_of (node.Group number branches) = number_in number
numbers_of _ = []

abbrev pub IsNamed : Node → Type 0
IsNamed (node.Ref groups caseless) = 0 < length groups
IsNamed _ = Unit {0}

abbrev pub AtMost : ℕ → Option ℕ → Type 0
AtMost low None = Unit {0}
AtMost low (Some high) = low ≤ high

-- the minimum of a repeat is at most its maximum
abbrev pub IsOrdered : Node → Type 0
IsOrdered (node.Repeat body min max lazy) = AtMost min max
IsOrdered (node.OneRepeat item min max lazy) = AtMost min max
IsOrdered _ = Unit {0}

-- a definition has no second branch
abbrev pub defines : Cond → Option ℕ → Type 0
defines Never no' = no' ≡ None
defines _ _ = Unit {0}

abbrev pub IsDefine : Node → Type 0
IsDefine (node.Cond test yes' no') = defines test no'
IsDefine _ = Unit {0}

-- what may stand as the test of a condition: a lookaround, or a callout and a lookaround after it
abbrev pub is_test : Nested → Bool
is_test (look ahead positive once branches) = true
is_test (seq (more (callout c) (more (look ahead positive once branches) none))) = true
is_test _ = false
