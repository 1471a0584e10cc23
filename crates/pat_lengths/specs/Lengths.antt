-- How many characters a tree can match (pcre2pattern, "Lookbehind assertions").
use Rattle.std.specs.Prelude.{ℕ, zero, suc, ◌+◌, ◌*◌, Bool, true, false, ◌||◌, ◌==◌, nat_le, min, max, List, [], ◌∷◌}
use Rattle.std.specs.Prelude.{flat_map, Option, Some, None}
use Rattle.std.specs.List.{list_any}
use Rattle.pat_tree.specs.Nested.{Nested, Row, Test, Other, empty, one, line_break, seq, group, repeat, one_repeat}
use Rattle.pat_tree.specs.Nested.{atomic, look, condition, call, ref, anchor, keep_out, verb, callout, none, more}
use Rattle.pat_tree.specs.Nested.{any_set, in_call, in_call_of, never, assert, called, no_other, other}
use Rattle.pat_tree.specs.Groups.{group_of}
use Rattle.pat_lengths.specs.Nodes.{captures, has_shared_number, named_in, nodes_outside_lookarounds, is_accept}
use Rattle.pat_lengths.specs.Nodes.{has_accept}

-- the least and the greatest length
pub record Lengths : Type 0 where
  pub least : ℕ
  -- none where the lengths are not limited
  pub most : Option ℕ

-- of a tree that has some length
abbrev pub SomeLengths : Type 0
SomeLengths = Option Lengths

abbrev pub between : ℕ → Option ℕ → SomeLengths
between least most = Some (record { least = least; most = most })

abbrev pub only : ℕ → SomeLengths
only k = between k (Some k)

abbrev pub any_length : SomeLengths
any_length = between 0 None

abbrev pub both : (ℕ → ℕ → ℕ) → Option ℕ → Option ℕ → Option ℕ
both f (Some a) (Some b) = Some (f a b)
both f _ _ = None

-- a length of one and a length of the other
abbrev pub in_turn : SomeLengths → SomeLengths → SomeLengths
in_turn (Some a) (Some b) = between (a.least + b.least) (both ◌+◌ a.most b.most)
in_turn _ _ = None

-- a length of one or of the other
abbrev pub either : SomeLengths → SomeLengths → SomeLengths
either None b = b
either a None = a
either (Some a) (Some b) = between (min a.least b.least) (both max a.most b.most)

-- the greatest sum of at most so many lengths, of which the greatest is given
abbrev pub most_in_turns : Option ℕ → Option ℕ → Option ℕ
most_in_turns (Some zero) most = Some 0
most_in_turns high (Some zero) = Some 0
most_in_turns (Some n) (Some k) = Some (n * k)
most_in_turns _ _ = None

-- the sums of n lengths, for each n within the bounds, where the minimum is at most the maximum
abbrev pub in_some_turns : ℕ → Option ℕ → SomeLengths → SomeLengths
in_some_turns zero high None = only 0
in_some_turns (suc low) high None = None
in_some_turns low high (Some a) = between (low * a.least) (most_in_turns high a.most)

abbrev pub in_turns : ℕ → Option ℕ → SomeLengths → SomeLengths
in_turns low None x = in_some_turns low None x
in_turns low (Some high) x = elim (nat_le low high) [ true ↦ in_some_turns low (Some high) x | false ↦ None ]

module _ (unset_matches : Bool) (whole : Nested) (of_group : ℕ → SomeLengths) where
  -- a reference to one group is as long as the group, where no other group can stand for it
  abbrev pub of_ref : List ℕ → SomeLengths
  of_ref (n ∷ []) = elim (unset_matches || has_shared_number whole) [ true ↦ any_length | false ↦ of_group n ]
  of_ref _ = any_length

  unfoldable mutual
    -- the lengths of a tree, by those of the groups that it calls
    pub lengths : Nested → SomeLengths
    lengths empty = only 0
    lengths (one item) = only 1
    -- CRLF is two characters
    lengths line_break = between 1 (Some 2)
    lengths (seq ts) = lengths_in_turn ts
    lengths (group number ts) = lengths_of_one ts
    lengths (repeat t low high lazily) = in_turns low high (lengths t)
    lengths (one_repeat item low high lazily) = in_turns low high (only 1)
    lengths (atomic ts) = lengths_of_one ts
    lengths (look ahead positive once ts) = only 0
    lengths (condition test first second) = of_test test (either (lengths first) (lengths_of_other second))
    lengths (call n) = of_group n
    lengths (ref ns caseless) = of_ref ns
    lengths (anchor a) = only 0
    lengths keep_out = only 0
    lengths (verb v) = only 0
    lengths (callout c) = only 0

    pub lengths_in_turn : Row → SomeLengths
    lengths_in_turn none = only 0
    lengths_in_turn (more t ts) = in_turn (lengths t) (lengths_in_turn ts)

    pub lengths_of_one : Row → SomeLengths
    lengths_of_one none = None
    lengths_of_one (more t ts) = either (lengths t) (lengths_of_one ts)

    pub lengths_of_other : Other → SomeLengths
    lengths_of_other no_other = only 0
    lengths_of_other (other t) = lengths t

    -- a definition matches nothing where it stands
    pub of_test : Test → SomeLengths → SomeLengths
    of_test never x = only 0
    of_test (any_set ns) x = x
    of_test in_call x = x
    of_test (in_call_of ns) x = x
    of_test (assert ahead positive once ts) x = x
    of_test (called c test) x = x

-- of a group that is there
abbrev pub lengths_of_group : (Nested → SomeLengths) → Option Nested → SomeLengths
lengths_of_group f None = None
lengths_of_group f (Some t) = f t

module _ (unset_matches : Bool) (whole : Nested) where
  -- what a group matches by at most d calls and references inside one another
  unfoldable pub by_calls : ℕ → ℕ → SomeLengths
  by_calls zero n = None
  by_calls (suc d) n = lengths_of_group (lengths unset_matches whole (by_calls d)) (group_of whole n)

  -- A text that a tree can match needs no group inside itself to be shortest: as many calls as there are groups will
  -- do.
  abbrev pub least_lengths : Nested → SomeLengths
  least_lengths t = lengths unset_matches whole (by_calls (suc (captures whole))) t

  -- the pattern can match an empty text
  abbrev pub can_be_empty : Bool
  can_be_empty = has_accept whole || is_zero (least_lengths whole)
    where
      is_zero : SomeLengths → Bool
      is_zero None = false
      is_zero (Some a) = a.least == 0

-- Lookbehinds.

-- the groups that calls and references in a group name
abbrev pub named_in_group : Option Nested → List ℕ
named_in_group None = []
named_in_group (Some t) = named_in t

module _ (whole : Nested) where
  -- the groups that a group leads to by calls and references
  abbrev pub names_of_group : ℕ → List ℕ
  names_of_group n = named_in_group (group_of whole n)

  -- one of these groups is the target, or leads to it by fewer than d calls and references
  unfoldable pub lead_to : ℕ → List ℕ → ℕ → Bool
  lead_to zero ns m = false
  lead_to (suc d) ns m = list_any (λ n. n == m) ns || lead_to d (flat_map names_of_group ns) m

  abbrev pub leads_back : ℕ → Bool
  leads_back n = lead_to (suc (captures whole)) (names_of_group n) n

module _ (unset_matches : Bool) (whole : Nested) where
  -- a call of a group that leads back to itself has any length
  unfoldable pub behind : ℕ → ℕ → SomeLengths
  behind zero n = None
  behind (suc d) n =
      elim (leads_back whole n) [
        | true ↦ any_length
        | false ↦ lengths_of_group (lengths unset_matches whole (behind d)) (group_of whole n)
      ]

  -- the lengths of a branch of a lookbehind
  abbrev pub branch_lengths : Nested → SomeLengths
  branch_lengths t =
      elim (list_any is_accept (nodes_outside_lookarounds t)) [
        | true ↦ any_length
        | false ↦ lengths unset_matches whole (behind (suc (captures whole))) t
      ]

-- a length past the greatest number of 32 bits counts as that number
abbrev pub counted : ℕ → ℕ
counted k = min k 4294967295

-- a branch of a lookbehind of one length may be so long
abbrev pub too_long : ℕ → Option ℕ
too_long k = elim (nat_le k 65535) [ true ↦ None | false ↦ Some 187 ]

-- one whose lengths differ may be so long
unfoldable pub differing : ℕ
differing = 255

abbrev pub too_different : ℕ → Option ℕ
too_different k = elim (nat_le k differing) [ true ↦ None | false ↦ Some 187 ]

-- why a branch of a lookbehind is refused: it has no greatest length, or it is too long
abbrev pub branch_fault : SomeLengths → Option ℕ
branch_fault None = Some 125
branch_fault (Some a) = of_most a.most
  where
    of_most : Option ℕ → Option ℕ
    of_most None = Some 125
    of_most (Some most) = elim (counted a.least == counted most) [
      | true ↦ too_long (counted most)
      | false ↦ too_different (counted most)
    ]
