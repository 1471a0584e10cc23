-- Which trees can match an empty text, by the groups that can.
use Rattle.std.specs.Prelude.{◌≡◌, ℕ, ◌≤◌, Bool, true, false, ◌||◌, ◌&&◌, ◌==◌, nat_le, List, [], ◌∷◌, Option, Some}
use Rattle.std.specs.Prelude.{None, length, filter, slice_index_or, if◌then◌else◌}
use Rattle.pat_tree.specs.Nested.{Nested, Row, Test, Other, tree_at, empty, one, line_break, seq, group, repeat}
use Rattle.pat_tree.specs.Nested.{one_repeat, atomic, look, condition, call, ref, anchor, keep_out, verb, callout}
use Rattle.pat_tree.specs.Nested.{none, more, any_set, in_call, in_call_of, never, assert, called, no_other, other}
use Rattle.pat_lengths.specs.Lengths.{SomeLengths, least_lengths}
use Rattle.pat_tree.specs.declared.nodes.Cond.{Cond}
use Rattle.pat_tree.specs.declared.nodes.Cond.TheVariants.{Never}
use Rattle.pat_tree.specs.Groups.{group_of}
use Rattle.pat_lengths.specs.Nodes.{is_capture, is_capture_of, number_twice, captures, has_shared_number}
use Rattle.pat_lengths.specs.declared.groups.Groups.{Groups}

-- 0 is one of the lengths
abbrev pub has_zero : SomeLengths → Bool
has_zero None = false
has_zero (Some a) = a.least == 0

abbrev pub is_at_most : ℕ → Option ℕ → Bool
is_at_most low None = true
is_at_most low (Some high) = nat_le low high

-- Where a reference to one group can match any length or not, and which groups can match an empty text.
module _ (any : Bool) (can : ℕ → Bool) where
  abbrev pub ref_passes : List ℕ → Bool
  ref_passes (n ∷ []) = any || can n
  ref_passes _ = true

  unfoldable mutual
    -- a tree can match an empty text
    pub passes : Nested → Bool
    passes empty = true
    passes (one item) = false
    passes line_break = false
    passes (seq ts) = all_pass ts
    passes (group number ts) = some_passes ts
    passes (repeat t low high lazily) = is_at_most low high && (low == 0 || passes t)
    passes (one_repeat item low high lazily) = is_at_most low high && low == 0
    passes (atomic ts) = some_passes ts
    passes (look ahead positive once ts) = true
    passes (condition test first second) = test_passes test (passes first || other_passes second)
    passes (call n) = can n
    passes (ref ns caseless) = ref_passes ns
    passes (anchor a) = true
    passes keep_out = true
    passes (verb v) = true
    passes (callout c) = true

    pub all_pass : Row → Bool
    all_pass none = true
    all_pass (more t ts) = passes t && all_pass ts

    pub some_passes : Row → Bool
    some_passes none = false
    some_passes (more t ts) = passes t || some_passes ts

    pub other_passes : Other → Bool
    other_passes no_other = true
    other_passes (other t) = passes t

    -- a definition is passed
    pub test_passes : Test → Bool → Bool
    test_passes never b = true
    test_passes (any_set ns) b = b
    test_passes in_call b = b
    test_passes (in_call_of ns) b = b
    test_passes (assert ahead positive once ts) b = b
    test_passes (called c test) b = b

-- the number has a flag that is set
abbrev pub flagged : List Bool → ℕ → Bool
flagged flags n = slice_index_or flags n false

-- Groups.

abbrev pub capture_number : Nested → Option ℕ
capture_number (group number ts) = number
capture_number _ = None

-- the first capturing group of a number
abbrev pub first_of : ℕ → List Nested → Option Nested
first_of n [] = None
first_of n (t ∷ ts) = if is_capture_of n t then Some t else first_of n ts

-- where a group stands, by the nodes' numbers
abbrev pub IsAt : List Nested → ℕ → Option ℕ → Option Nested → Type 0
IsAt trees root None found = found ≡ None
IsAt trees root (Some k) found = (k ≤ root) × (found ≡ Some (tree_at trees k))

abbrev pub place_of : List (Option ℕ) → ℕ → Option ℕ
place_of places n = slice_index_or places n None

-- the groups of these nodes: where the first of each number is, how many there are, and whether two have one number
pub record AreGroups (trees : List Nested) (root : ℕ) (groups : Groups) (nodes : List Nested) : Type 0 where
  pub places : (n : ℕ) → IsAt trees root (place_of groups.places.items n) (first_of n nodes)
  pub count : groups.count ≡ length (filter is_capture nodes)
  pub shared : groups.shared ≡ number_twice nodes

-- the first of these nodes, by their numbers, that is a capturing group of number n
abbrev pub group_in : List Nested → ℕ → List ℕ → Option ℕ
group_in trees n [] = None
group_in trees n (k ∷ ks) = if is_capture_of n (tree_at trees k) then Some k else group_in trees n ks

-- each group's place is that of the first
abbrev pub ArePlaced : List Nested → List ℕ → List (Option ℕ) → Type 0
ArePlaced trees ids places = (n : ℕ) → place_of places n ≡ group_in trees n ids

-- where the group of number n stands, of which 0 is the whole pattern, whose nodes are these in their order
abbrev pub called_place : List Nested → ℕ → List ℕ → ℕ → Option ℕ
called_place trees root ids n = if n == 0 then Some root else group_in trees n ids

-- whether the node at a place has a flag
abbrev pub passes_at : List Bool → Option ℕ → Bool
passes_at passing None = false
passes_at passing (Some k) = flagged passing k

-- a condition's, by those of its branches; a definition is passed
abbrev pub second_passes : (ℕ → Bool) → Option ℕ → Bool
second_passes f None = true
second_passes f (Some k) = f k

abbrev pub condition_passes : (ℕ → Bool) → Cond → ℕ → Option ℕ → Bool
condition_passes f Never first second = true
condition_passes f _ first second = f first || second_passes f second

-- the table of a pattern's groups, of which group 0 is the whole
pub record IsGroupTable (trees : List Nested) (root : ℕ) (whole : Nested) (groups : Groups) : Type 0 where
  pub places : (n : ℕ) → IsAt trees root (place_of groups.places.items n) (group_of whole n)
  pub count : groups.count ≡ captures whole
  pub shared : groups.shared ≡ has_shared_number whole

-- the least lengths of the whole pattern
abbrev pub whole_lengths : Bool → Nested → SomeLengths
whole_lengths unset_matches whole = least_lengths unset_matches whole whole
