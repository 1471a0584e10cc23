-- The nodes of a nested tree.
use Rattle.std.specs.Prelude.{ℕ, Bool, true, false, ◌||◌, not, ◌==◌, List, [], ◌∷◌, ◌++◌, length, filter, flat_map}
use Rattle.std.specs.Prelude.{slice_get, Option, Some, None}
use Rattle.std.specs.List.{list_any}
use Rattle.pat_tree.specs.declared.nodes.Item.{Item}
use Rattle.pat_tree.specs.declared.nodes.Item.TheVariants.{Char, Class}
use Rattle.pat_tree.specs.declared.nodes.AnchorKind.TheVariants.{SubjectStart, Word, NotWord}
use Rattle.pat_tree.specs.declared.nodes.Verb.TheVariants.{Accept}
use Rattle.pat_tree.specs.declared.nodes.Part.{Part}
use Rattle.pat_tree.specs.declared.nodes.Part.TheVariants.{Range, Set}
use Rattle.pat_tree.specs.declared.nodes.ClassSpec.{ClassSpec}
use Rattle.pat_tree.specs.Nested.{Nested, Row, Test, Other, empty, one, line_break, seq, group, repeat, one_repeat}
use Rattle.pat_tree.specs.Nested.{atomic, look, condition, call, ref, anchor, keep_out, verb, callout, none, more}
use Rattle.pat_tree.specs.Nested.{any_set, in_call, in_call_of, never, assert, called, no_other, other}

abbrev pub kept : Bool → List Nested → List Nested
kept true ts = ts
kept false ts = []

-- the tree that stands as a test: a lookaround, or a callout and a lookaround after it
abbrev pub tree_of_test : Test → Nested
tree_of_test (assert ahead positive once ts) = look ahead positive once ts
tree_of_test (called c test) = seq (more (callout c) (more (tree_of_test test) none))
tree_of_test _ = empty

-- the nodes of a tree, each before its children, with those inside lookarounds or without them
unfoldable mutual
  pub nodes : Bool → Nested → List Nested
  nodes inside empty = empty ∷ []
  nodes inside (one item) = one item ∷ []
  nodes inside line_break = line_break ∷ []
  nodes inside (seq ts) = seq ts ∷ nodes_in inside ts
  nodes inside (group n ts) = group n ts ∷ nodes_in inside ts
  nodes inside (repeat t low high lazily) = repeat t low high lazily ∷ nodes inside t
  nodes inside (one_repeat item low high lazily) = one_repeat item low high lazily ∷ []
  nodes inside (atomic ts) = atomic ts ∷ nodes_in inside ts
  nodes inside (look ahead positive once ts) = look ahead positive once ts ∷ kept inside (nodes_in inside ts)
  nodes inside (condition test first second) =
      condition test first second ∷ nodes_of_test inside test ++ nodes inside first ++ nodes_of_other inside second
  nodes inside (call n) = call n ∷ []
  nodes inside (ref ns caseless) = ref ns caseless ∷ []
  nodes inside (anchor a) = anchor a ∷ []
  nodes inside keep_out = keep_out ∷ []
  nodes inside (verb v) = verb v ∷ []
  nodes inside (callout c) = callout c ∷ []

  pub nodes_in : Bool → Row → List Nested
  nodes_in inside none = []
  nodes_in inside (more t ts) = nodes inside t ++ nodes_in inside ts

  -- a lookaround that is a test is a node too, and so are a callout before it and the sequence of both
  pub nodes_of_test : Bool → Test → List Nested
  nodes_of_test inside (any_set ns) = []
  nodes_of_test inside in_call = []
  nodes_of_test inside (in_call_of ns) = []
  nodes_of_test inside never = []
  nodes_of_test inside (assert ahead positive once ts) = look ahead positive once ts ∷ kept inside (nodes_in inside ts)
  nodes_of_test inside (called c test) = tree_of_test (called c test) ∷ callout c ∷ nodes_of_test inside test

  pub nodes_of_other : Bool → Other → List Nested
  nodes_of_other inside no_other = []
  nodes_of_other inside (other t) = nodes inside t

abbrev pub all_nodes : Nested → List Nested
all_nodes = nodes true

abbrev pub nodes_outside_lookarounds : Nested → List Nested
nodes_outside_lookarounds = nodes false

-- Groups.

abbrev pub is_capture : Nested → Bool
is_capture (group (Some n) ts) = true
is_capture _ = false

abbrev pub is_capture_of : ℕ → Nested → Bool
is_capture_of n (group (Some m) ts) = m == n
is_capture_of n _ = false

abbrev pub captures : Nested → ℕ
captures t = length (filter is_capture (all_nodes t))

abbrev pub number_twice : List Nested → Bool
number_twice [] = false
number_twice (t ∷ ts) = elim (number_of t) [
  | None ↦ number_twice ts
  | Some n ↦
      list_any (is_capture_of n) ts || number_twice ts
]
  where
    number_of : Nested → Option ℕ
    number_of (group number us) = number
    number_of _ = None

-- two groups have one number
abbrev pub has_shared_number : Nested → Bool
has_shared_number t = number_twice (all_nodes t)

-- the groups that calls and references in a tree name
abbrev pub named_by : Nested → List ℕ
named_by (call n) = n ∷ []
named_by (ref ns caseless) = ns
named_by _ = []

abbrev pub named_in : Nested → List ℕ
named_in t = flat_map named_by (all_nodes t)

-- What a tree holds.

abbrev pub is_lookbehind : Nested → Bool
is_lookbehind (look ahead positive once ts) = not ahead
is_lookbehind _ = false

abbrev pub has_lookbehind : Nested → Bool
has_lookbehind t = list_any is_lookbehind (all_nodes t)

-- `\b`, `\B` and `\A` look at the character before
abbrev pub looks_before : Nested → Bool
looks_before (anchor SubjectStart) = true
looks_before (anchor (Word ucp)) = true
looks_before (anchor (NotWord ucp)) = true
looks_before _ = false

abbrev pub tests_before : Nested → Bool
tests_before t = list_any looks_before (all_nodes t)

abbrev pub is_accept : Nested → Bool
is_accept (verb (Accept name)) = true
is_accept _ = false

abbrev pub has_accept : Nested → Bool
has_accept t = list_any is_accept (all_nodes t)

-- CR and LF, named as a character or as an end of a range

abbrev pub is_cr_or_lf : ℕ → Bool
is_cr_or_lf c = c == 13 || c == 10

abbrev pub part_names : Part → Bool
part_names (Range from to) = is_cr_or_lf from || is_cr_or_lf to
part_names (Set set outside ucp) = false

abbrev pub class_names : Option ClassSpec → Bool
class_names None = false
class_names (Some class) = list_any part_names class.parts

abbrev pub item_names : List ClassSpec → Item → Bool
item_names classes (Char c caseless) = is_cr_or_lf c
item_names classes (Class n) = class_names (slice_get classes n)
item_names classes _ = false

abbrev pub node_names : List ClassSpec → Nested → Bool
node_names classes (one item) = item_names classes item
node_names classes (one_repeat item low high lazily) = item_names classes item
node_names classes _ = false

abbrev pub names_cr_or_lf : List ClassSpec → Nested → Bool
names_cr_or_lf classes t = list_any (node_names classes) (all_nodes t)
