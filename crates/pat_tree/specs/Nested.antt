-- The nested value that a tree's numbered nodes stand for.
use Rattle.std.specs.Prelude.{ℕ, Bool, List, [], ◌∷◌, ◌++◌, map, Option, Some, None, slice_index_or}
use Rattle.pat_tree.specs.declared.nodes.Item.{Item}
use Rattle.pat_tree.specs.declared.nodes.AnchorKind.{AnchorKind}
use Rattle.pat_tree.specs.declared.nodes.Verb.{Verb}
use Rattle.pat_tree.specs.declared.nodes.Cond.{Cond}
use Rattle.pat_tree.specs.declared.nodes.Cond.TheVariants.{AnySet, InCall, InCallOf, Never, Assert}
use Rattle.pat_tree.specs.declared.nodes.Node.{Node}
use Rattle.pat_tree.specs.declared.nodes.Node.TheVariants as node
use Rattle.pat_tree.specs.declared.nodes.Placed.{Placed}

-- a callout: its number, the places of its string, and the next item's place and length
pub record Callout : Type 0 where
  pub number : ℕ
  pub text_from : ℕ
  pub text_to : ℕ
  pub item_at : ℕ
  pub item_len : ℕ

mutual
  pub data Nested : Type 0 where
    empty : Nested
    one : Item → Nested
    -- `\R`
    line_break : Nested
    seq : Row → Nested
    -- a capturing group has a number
    group : Option ℕ → Row → Nested
    -- body, minimum, maximum if there is one, lazy
    repeat : Nested → ℕ → Option ℕ → Bool → Nested
    one_repeat : Item → ℕ → Option ℕ → Bool → Nested
    atomic : Row → Nested
    -- ahead, positive, atomic
    look : Bool → Bool → Bool → Row → Nested
    condition : Test → Nested → Other → Nested
    call : ℕ → Nested
    -- the groups, caseless
    ref : List ℕ → Bool → Nested
    anchor : AnchorKind → Nested
    -- `\K`
    keep_out : Nested
    verb : Verb → Nested
    callout : Callout → Nested

  -- parts or branches in order
  pub data Row : Type 0 where
    none : Row
    more : Nested → Row → Row

  -- the test of a condition
  pub data Test : Type 0 where
    any_set : List ℕ → Test
    in_call : Test
    in_call_of : List ℕ → Test
    never : Test
    -- a lookaround: ahead, positive, atomic
    assert : Bool → Bool → Bool → Row → Test
    -- a callout before a lookaround
    called : Callout → Test → Test

  -- the second branch of a condition, where there is one
  pub data Other : Type 0 where
    no_other : Other
    other : Nested → Other

abbrev pub row : List Nested → Row
row [] = none
row (t ∷ ts) = more t (row ts)

-- a lookaround as a test, and what stands for it where a callout comes first
abbrev pub test_of : Nested → Test
test_of (look ahead positive once branches) = assert ahead positive once branches
test_of (seq (more (callout c) (more (look ahead positive once branches) none))) =
    called c (assert ahead positive once branches)
test_of _ = never

-- the tree of a node, where its children stand for the trees at their numbers
module _ (trees : List Nested) where
  abbrev pub tree_at : ℕ → Nested
  tree_at k = slice_index_or trees k empty

  abbrev pub other_of : Option ℕ → Other
  other_of None = no_other
  other_of (Some k) = other (tree_at k)

  abbrev pub cond_of : Cond → Test
  cond_of (AnySet groups) = any_set groups
  cond_of InCall = in_call
  cond_of (InCallOf groups) = in_call_of groups
  cond_of Never = never
  cond_of (Assert k) = test_of (tree_at k)

  abbrev pub nest : Node → Nested
  nest node.Empty = empty
  nest (node.One item) = one item
  nest node.Break = line_break
  nest (node.Seq kids) = seq (row (map tree_at kids))
  nest (node.Group number branches) = group number (row (map tree_at branches))
  nest (node.Repeat body min max lazy) = repeat (tree_at body) min max lazy
  nest (node.OneRepeat item min max lazy) = one_repeat item min max lazy
  nest (node.Atomic branches) = atomic (row (map tree_at branches))
  nest (node.Look ahead positive once branches) = look ahead positive once (row (map tree_at branches))
  nest (node.Cond test yes' no') = condition (cond_of test) (tree_at yes') (other_of no')
  nest (node.Call n) = call n
  nest (node.Ref groups caseless) = ref groups caseless
  nest (node.Anchor kind) = anchor kind
  nest node.KeepOut = keep_out
  nest (node.VerbNode v) = verb v
  nest (node.Callout number from to at len) =
      callout (record { number = number; text_from = from; text_to = to; item_at = at; item_len = len })

-- the trees of the nodes, in the order of adding, after those of earlier nodes
unfoldable pub trees_after : List Nested → List Placed → List Nested
trees_after before [] = before
trees_after before (p ∷ ps) = trees_after (before ++ nest before p.node ∷ []) ps

unfoldable pub trees : List Placed → List Nested
trees ps = trees_after [] ps
