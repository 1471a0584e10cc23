-- Reading the nodes of an image, a node with its children from those that no other has taken.
use Rattle.std.specs.Prelude.{◌≡◌, ℕ, ◌+◌, ◌-◌, Bool, true, false, not, ◌||◌, ◌&&◌, ◌==◌, List, [], ◌∷◌, length, drop}
use Rattle.std.specs.Prelude.{Option, Some, None, nat_lt, nat_le, if◌then◌else◌, slice_index, map}
use Rattle.std.specs.Int.{w16, w32}
use Rattle.pat_tree.specs.declared.nodes.Item.{Item}
use Rattle.pat_tree.specs.declared.nodes.Item.TheVariants as item
use Rattle.pat_tree.specs.declared.nodes.AnchorKind.{AnchorKind}
use Rattle.pat_tree.specs.declared.nodes.AnchorKind.TheVariants as anchor
use Rattle.pat_tree.specs.declared.nodes.Verb.{Verb}
use Rattle.pat_tree.specs.declared.nodes.Verb.TheVariants as verb
use Rattle.pat_tree.specs.declared.nodes.Cond.{Cond}
use Rattle.pat_tree.specs.declared.nodes.Cond.TheVariants as test
use Rattle.pat_tree.specs.declared.nodes.Node.{Node}
use Rattle.pat_tree.specs.declared.nodes.Node.TheVariants as node
use Rattle.pat_tree.specs.declared.nodes.Placed.{Placed}
use Rattle.pat_tree.specs.Growing.{loose}
use Rattle.pat_tree.specs.Nested.{trees, tree_at}
use Rattle.pat_tree.specs.Rules.{is_test, tests_of}
use Rattle.pat_save.specs.Reading.{Reader, ◌>>=◌, byte_at, number_at, joined, chosen, made, passing, listed, nothing_at}
use Rattle.pat_save.specs.Reading.{choice_at, bool_at, optional_at, groups_at}
use Rattle.pat_save.specs.declared.taken_nodes.Around.{Around}
use Rattle.pat_save.specs.ReadTables.{is_character}

unfoldable pub char_at : Around → Reader Item
char_at around = made (λ x. item.Char x.0 x.1)
    (joined (passing (is_character around.utf) (number_at w32)) (λ _. bool_at))

unfoldable pub class_number_at : Around → Reader Item
class_number_at around = made item.Class (passing (λ n. nat_lt n around.classes) (number_at w32))

unfoldable pub item_at : Around → Reader Item
item_at around = choice_at (
    char_at around
    ∷ made (λ _. item.AnyAll) nothing_at
    ∷ made (λ _. item.NotNewline) nothing_at
    ∷ class_number_at around
    ∷ []
    )

unfoldable pub anchor_at : Reader AnchorKind
anchor_at = choice_at (
    made anchor.Caret bool_at
    ∷ made (λ x. anchor.Dollar x.0 x.1) (joined bool_at (λ _. bool_at))
    ∷ made (λ _. anchor.SubjectStart) nothing_at
    ∷ made (λ _. anchor.SubjectEnd) nothing_at
    ∷ made (λ _. anchor.EndOrNewline) nothing_at
    ∷ made (λ _. anchor.StartGiven) nothing_at
    ∷ made anchor.Word bool_at
    ∷ made anchor.NotWord bool_at
    ∷ []
    )

-- the verb of a place with this name
abbrev pub verb_of : ℕ → Option ℕ → Option Verb
verb_of n name = listed 0 (verb.Accept name ∷ verb.Fail name ∷ verb.Commit name ∷ verb.Prune name ∷ verb.Skip name
    ∷ verb.Then name ∷ verb.Mark name ∷ []) n

abbrev pub is_below : ℕ → Option ℕ → Bool
is_below limit None = true
is_below limit (Some n) = nat_lt n limit

unfoldable pub verb_at : ℕ → Reader Verb
verb_at names = chosen (λ x. verb_of x.0 x.1)
    (joined byte_at (λ _. passing (is_below names) (optional_at (number_at w32))))

abbrev pub is_ordered : ℕ → Option ℕ → Bool
is_ordered min None = true
is_ordered min (Some max) = nat_le min max

-- the least and the greatest number of times, and whether the fewest are tried first
unfoldable pub limits_at : Reader (ℕ × (Option ℕ × Bool))
limits_at = passing (λ x. is_ordered x.0 x.1.0)
    (joined (number_at w16) (λ _. joined (optional_at (number_at w16)) (λ _. bool_at)))

-- the nodes that no other has taken, each with whether it may be the test of a condition
abbrev pub Free : Type 0
Free = List (ℕ × Bool)

-- the numbers of the last so many
abbrev pub last_of : ℕ → Free → Option (List ℕ)
last_of n free = if nat_lt (length free) n then None else Some (map (λ k. k.0) (drop (length free - n) free))

-- the last, and those before it
abbrev pub top_of : Free → Option ((ℕ × Bool) × Free)
top_of [] = None
top_of (k ∷ []) = Some (k, [])
top_of (k ∷ j ∷ ks) = top_of (j ∷ ks) >>= λ t. Some (t.0, k ∷ t.1)

unfoldable pub kids_at : Free → Reader (List ℕ)
kids_at free = chosen (λ n. last_of n free) (number_at w32)

abbrev pub is_numbered : Option ℕ → Bool
is_numbered None = true
is_numbered (Some n) = nat_le 1 n

unfoldable pub group_at : Free → Reader Node
group_at free = made (λ x. node.Group x.0 x.1)
    (joined (passing is_numbered (optional_at (number_at w16))) (λ _. kids_at free))

abbrev pub repeat_of : Free → ℕ × (Option ℕ × Bool) → Option Node
repeat_of free x = top_of free >>= λ body. Some (node.Repeat body.0.0 x.0 x.1.0 x.1.1)

unfoldable pub look_at : Free → Reader Node
look_at free = made (λ x. node.Look x.0 x.1.0 x.1.1.0 x.1.1.1)
    (joined bool_at (λ _. joined bool_at (λ _. joined bool_at (λ _. kids_at free))))

unfoldable pub one_repeat_at : Around → Reader Node
one_repeat_at around = made (λ x. node.OneRepeat x.0 x.1.0 x.1.1.0 x.1.1.1) (joined (item_at around) (λ _. limits_at))

-- a test that is no lookaround, or none
abbrev pub IsMarker : Option Cond → Type 0
IsMarker None = Unit {0}
IsMarker (Some t) = tests_of t ≡ []

-- none stands for a lookaround, which is a child
unfoldable pub test_at : Reader (Option Cond)
test_at = choice_at (
    made (λ groups. Some (test.AnySet groups)) groups_at
    ∷ made (λ _. Some test.InCall) nothing_at
    ∷ made (λ groups. Some (test.InCallOf groups)) groups_at
    ∷ made (λ _. Some test.Never) nothing_at
    ∷ made (λ _. None) nothing_at
    ∷ []
    )

abbrev pub second_of : Free → Bool → Option (Option ℕ × Free)
second_of free false = Some (None, free)
second_of free true = top_of free >>= λ k. Some (Some k.0.0, k.1)

abbrev pub asserted : Free → Option Cond → Option Cond
asserted free (Some c) = Some c
asserted free None = top_of free >>= λ k. if k.0.1 then Some (test.Assert k.0.0) else None

-- only a condition that may hold has a second branch
abbrev pub may_have : Cond → Bool → Bool
may_have test.Never has_no = not has_no
may_have _ has_no = true

unfoldable pub cond_of : Free → Option Cond → Bool → Option Node
cond_of free c has_no = second_of free has_no >>= λ no'. top_of no'.1 >>= λ yes'. asserted yes'.1 c
    >>= λ test. if may_have test has_no then Some (node.Cond test yes'.0.0 no'.0) else None

unfoldable pub cond_at : Free → Reader Node
cond_at free = chosen (λ x. cond_of free x.0 x.1) (joined test_at (λ _. bool_at))

abbrev pub is_filled : List ℕ → Bool
is_filled groups = nat_lt 0 (length groups)

unfoldable pub ref_at : Reader Node
ref_at = made (λ x. node.Ref x.0 x.1) (joined (passing is_filled groups_at) (λ _. bool_at))

-- no byte in the middle of a character stands there
abbrev pub is_boundary : List ℕ → ℕ → Bool
is_boundary text at = nat_le (length text) at || nat_lt (slice_index text at) 128 || nat_le 192 (slice_index text at)

abbrev pub is_place : Bool → List ℕ → ℕ → Bool
is_place utf text at = nat_le at (length text) && (not utf || is_boundary text at)

abbrev pub is_string : Bool → List ℕ → ℕ → ℕ → Bool
is_string utf text from to = if from == 0 then to == 0
    else nat_le from to && nat_lt to (length text) && is_place utf text (from - 1) && is_place utf text (to + 1)

abbrev pub is_piece : Bool → List ℕ → ℕ → ℕ → Bool
is_piece utf text at len = is_place utf text at && is_place utf text (at + len)

abbrev pub is_callout : Bool → List ℕ → ℕ × (ℕ × (ℕ × (ℕ × ℕ))) → Bool
is_callout utf text x = is_string utf text x.1.0 x.1.1.0 && is_piece utf text x.1.1.1.0 x.1.1.1.1

unfoldable pub callout_at : Bool → List ℕ → Reader Node
callout_at utf text = made (λ x. node.Callout x.0 x.1.0 x.1.1.0 x.1.1.1.0 x.1.1.1.1) (passing (is_callout utf text)
    (joined byte_at (λ _. joined (number_at w32) (λ _. joined (number_at w32)
    (λ _. joined (number_at w32) (λ _. number_at w32))))))

-- a node of a kind without children, but for callouts
unfoldable pub leaf_at : Around → ℕ → Reader Node
leaf_at around kind bytes =
    if kind == 0 then made (λ _. node.Empty) nothing_at bytes
    else if kind == 1 then made node.One (item_at around) bytes
    else if kind == 2 then made (λ _. node.Break) nothing_at bytes
    else if kind == 6 then one_repeat_at around bytes
    else if kind == 10 then made node.Call (number_at w16) bytes
    else if kind == 11 then ref_at bytes
    else if kind == 12 then made node.Anchor anchor_at bytes
    else if kind == 13 then made (λ _. node.KeepOut) nothing_at bytes
    else if kind == 14 then made node.VerbNode (verb_at around.verb_names) bytes
    else None

-- a node of a kind, with its children from the last of the free ones
unfoldable pub behind : Around → List ℕ → Free → ℕ → Reader Node
behind around text free kind bytes =
    if kind == 3 then made node.Seq (kids_at free) bytes
    else if kind == 4 then group_at free bytes
    else if kind == 5 then chosen (repeat_of free) limits_at bytes
    else if kind == 7 then made node.Atomic (kids_at free) bytes
    else if kind == 8 then look_at free bytes
    else if kind == 9 then cond_at free bytes
    else if kind == 15 then callout_at around.utf text bytes
    else leaf_at around kind bytes

unfoldable pub node_at : Around → List ℕ → Free → Reader Node
node_at around text free bytes = byte_at bytes >>= λ kind. behind around text free kind.0 kind.1

-- the loose nodes of these
abbrev pub free_in : List Placed → Free
free_in known = map (λ k. (k, is_test (tree_at (trees known) k))) (loose known)

-- a node after these
unfoldable pub placed_after : Around → List ℕ → List Placed → Reader Placed
placed_after around text known = made (λ node. record { node = node; at = 0 }) (node_at around text (free_in known))
