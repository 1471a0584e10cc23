-- The image of patterns: the bytes that they are saved as.
use Rattle.std.specs.Prelude.{ℕ, Bool, List, [], ◌∷◌, ◌++◌, length, Option, Some, None, codes}
use Rattle.pat_tree.specs.declared.options.Options.{Options}
use Rattle.pat_tree.specs.declared.options.Newline.{Newline}
use Rattle.pat_tree.specs.declared.options.Newline.TheVariants as newline
use Rattle.pat_tree.specs.declared.options.Bsr.{Bsr}
use Rattle.pat_tree.specs.declared.options.Bsr.TheVariants as bsr
use Rattle.pat_tree.specs.declared.nodes.Item.{Item}
use Rattle.pat_tree.specs.declared.nodes.Item.TheVariants as item
use Rattle.pat_tree.specs.declared.nodes.AnchorKind.{AnchorKind}
use Rattle.pat_tree.specs.declared.nodes.AnchorKind.TheVariants as anchor
use Rattle.pat_tree.specs.declared.nodes.Verb.{Verb}
use Rattle.pat_tree.specs.declared.nodes.Verb.TheVariants as verb
use Rattle.pat_tree.specs.declared.nodes.Cond.{Cond}
use Rattle.pat_tree.specs.declared.nodes.Cond.TheVariants as test
use Rattle.pat_tree.specs.declared.nodes.Node.{Node}
use Rattle.pat_tree.specs.declared.nodes.Node.TheVariants as node
use Rattle.pat_tree.specs.declared.nodes.Placed.{Placed}
use Rattle.pat_tree.specs.declared.nodes.SetName.{SetName}
use Rattle.pat_tree.specs.declared.nodes.SetName.TheVariants as set
use Rattle.pat_tree.specs.declared.nodes.Part.{Part}
use Rattle.pat_tree.specs.declared.nodes.Part.TheVariants as part
use Rattle.pat_tree.specs.declared.nodes.ClassSpec.{ClassSpec}
use Rattle.pat_tree.specs.declared.names.NameEntry.{NameEntry}
use Rattle.pat_tree.specs.Parts.{TreeParts}
use Rattle.pat_tree.specs.Sound.{greatest, group_numbers}
use Rattle.pat_save.specs.declared.saved.Saved.{Saved}
use Rattle.pat_save.specs.Fields.{two_bytes, four_bytes, bit, number_of, optional, counted, short_text}

-- the bools of the options, in the order of the fields
abbrev pub flags_of : Options → List Bool
flags_of o =
    o.anchored ∷ o.endanchored ∷ o.caseless ∷ o.multiline ∷ o.dotall ∷ o.extended ∷ o.extended_more
    ∷ o.dollar_endonly ∷ o.dupnames ∷ o.firstline ∷ o.literal ∷ o.no_auto_capture ∷ o.ungreedy ∷ o.utf
    ∷ o.ucp ∷ o.allow_empty_class ∷ o.match_unset_backref ∷ o.no_start_optimize ∷ o.auto_callout
    ∷ o.notempty ∷ o.notempty_atstart ∷ []

abbrev pub newline_place : Newline → ℕ
newline_place newline.Cr = 0
newline_place newline.Lf = 1
newline_place newline.CrLf = 2
newline_place newline.AnyCrLf = 3
newline_place newline.Any = 4
newline_place newline.Nul = 5

abbrev pub bsr_place : Bsr → ℕ
bsr_place bsr.Unicode = 0
bsr_place bsr.AnyCrLf = 1

abbrev pub options_bytes : Options → List ℕ
options_bytes o =
    four_bytes (number_of (flags_of o))
    ++ (newline_place o.newline ∷ bsr_place o.bsr ∷ optional four_bytes o.match_limit)

abbrev pub text_bytes : List ℕ → List ℕ
text_bytes text = four_bytes (length text) ++ text

abbrev pub name_bytes : NameEntry → List ℕ
name_bytes entry = four_bytes entry.group ++ short_text entry.name

abbrev pub set_place : SetName → ℕ
set_place set.Digit = 0
set_place set.Space = 1
set_place set.Word = 2
set_place set.Alpha = 3
set_place set.Alnum = 4
set_place set.Lower = 5
set_place set.Upper = 6
set_place set.Blank = 7
set_place set.Cntrl = 8
set_place set.Graph = 9
set_place set.Print = 10
set_place set.Punct = 11
set_place set.Ascii = 12
set_place set.Xdigit = 13
set_place set.H = 14
set_place set.V = 15
set_place (set.Property number) = 16

-- of a property its number too
abbrev pub property_bytes : SetName → List ℕ
property_bytes (set.Property number) = two_bytes number
property_bytes _ = []

abbrev pub set_bytes : SetName → List ℕ
set_bytes name = set_place name ∷ property_bytes name

abbrev pub part_bytes : Part → List ℕ
part_bytes (part.Range low high) = 0 ∷ four_bytes low ++ four_bytes high
part_bytes (part.Set name not ucp) = 1 ∷ number_of (not ∷ ucp ∷ []) ∷ set_bytes name

abbrev pub class_bytes : ClassSpec → List ℕ
class_bytes spec = number_of (spec.negated ∷ spec.caseless ∷ []) ∷ counted part_bytes spec.parts

-- In nodes a variant is its place, a bool is 0 or 1, and a list is counted. Children stand before, and have no bytes.
abbrev pub item_bytes : Item → List ℕ
item_bytes (item.Char c caseless) = 0 ∷ four_bytes c ++ bit caseless ∷ []
item_bytes item.AnyAll = 1 ∷ []
item_bytes item.NotNewline = 2 ∷ []
item_bytes (item.Class number) = 3 ∷ four_bytes number

abbrev pub anchor_bytes : AnchorKind → List ℕ
anchor_bytes (anchor.Caret multi) = 0 ∷ bit multi ∷ []
anchor_bytes (anchor.Dollar multi end_only) = 1 ∷ bit multi ∷ bit end_only ∷ []
anchor_bytes anchor.SubjectStart = 2 ∷ []
anchor_bytes anchor.SubjectEnd = 3 ∷ []
anchor_bytes anchor.EndOrNewline = 4 ∷ []
anchor_bytes anchor.StartGiven = 5 ∷ []
anchor_bytes (anchor.Word ucp) = 6 ∷ bit ucp ∷ []
anchor_bytes (anchor.NotWord ucp) = 7 ∷ bit ucp ∷ []

abbrev pub verb_bytes : Verb → List ℕ
verb_bytes (verb.Accept name) = 0 ∷ optional four_bytes name
verb_bytes (verb.Fail name) = 1 ∷ optional four_bytes name
verb_bytes (verb.Commit name) = 2 ∷ optional four_bytes name
verb_bytes (verb.Prune name) = 3 ∷ optional four_bytes name
verb_bytes (verb.Skip name) = 4 ∷ optional four_bytes name
verb_bytes (verb.Then name) = 5 ∷ optional four_bytes name
verb_bytes (verb.Mark name) = 6 ∷ optional four_bytes name

abbrev pub test_bytes : Cond → List ℕ
test_bytes (test.AnySet groups) = 0 ∷ counted two_bytes groups
test_bytes test.InCall = 1 ∷ []
test_bytes (test.InCallOf groups) = 2 ∷ counted two_bytes groups
test_bytes test.Never = 3 ∷ []
test_bytes (test.Assert lookaround) = 4 ∷ []

-- a child that may be missing
abbrev pub child_bytes : Option ℕ → List ℕ
child_bytes None = 0 ∷ []
child_bytes (Some k) = 1 ∷ []

abbrev pub limits_bytes : ℕ → Option ℕ → Bool → List ℕ
limits_bytes min max lazy = two_bytes min ++ optional two_bytes max ++ bit lazy ∷ []

abbrev pub node_bytes : Node → List ℕ
node_bytes node.Empty = 0 ∷ []
node_bytes (node.One item) = 1 ∷ item_bytes item
node_bytes node.Break = 2 ∷ []
node_bytes (node.Seq kids) = 3 ∷ four_bytes (length kids)
node_bytes (node.Group number branches) = 4 ∷ optional two_bytes number ++ four_bytes (length branches)
node_bytes (node.Repeat body min max lazy) = 5 ∷ limits_bytes min max lazy
node_bytes (node.OneRepeat item min max lazy) = 6 ∷ item_bytes item ++ limits_bytes min max lazy
node_bytes (node.Atomic branches) = 7 ∷ four_bytes (length branches)
node_bytes (node.Look ahead positive once branches) =
    8 ∷ bit ahead ∷ bit positive ∷ bit once ∷ four_bytes (length branches)
node_bytes (node.Cond test yes' no') = 9 ∷ test_bytes test ++ child_bytes no'
node_bytes (node.Call group) = 10 ∷ two_bytes group
node_bytes (node.Ref groups caseless) = 11 ∷ counted two_bytes groups ++ bit caseless ∷ []
node_bytes (node.Anchor kind) = 12 ∷ anchor_bytes kind
node_bytes node.KeepOut = 13 ∷ []
node_bytes (node.VerbNode v) = 14 ∷ verb_bytes v
node_bytes (node.Callout number from to at len) =
    15 ∷ number ∷ four_bytes from ++ four_bytes to ++ four_bytes at ++ four_bytes len

abbrev pub placed_bytes : Placed → List ℕ
placed_bytes p = node_bytes p.node

-- a pattern: its options, its text, the greatest group, names of groups, names of verbs, classes and nodes
abbrev pub tables_bytes : TreeParts → List ℕ
tables_bytes t = counted name_bytes t.names ++ counted short_text t.verb_names ++ counted class_bytes t.classes

abbrev pub record_bytes : Saved → List ℕ
record_bytes s =
    options_bytes s.tree.options ++ text_bytes s.text ++ four_bytes (greatest (group_numbers s.tree.nodes))
    ++ tables_bytes s.tree ++ counted placed_bytes s.tree.nodes

unfoldable pub image_of : List Saved → List ℕ
image_of list = codes "PCP1" ++ counted record_bytes list
