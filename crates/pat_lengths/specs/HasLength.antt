-- The lengths that a tree can match, one by one.
use Rattle.std.specs.List.{list_any}
use Rattle.std.specs.Prelude.{◌≡◌, ◌≤◌, ℕ, zero, suc, ◌+◌, Bool, true, false, ◌||◌, ◌⊎◌, List, [], ◌∷◌, Option, Some}
use Rattle.std.specs.Prelude.{None}
use Rattle.pat_tree.specs.Nested.{Nested, Row, Test, Other, empty, one, line_break, seq, group, repeat, one_repeat}
use Rattle.pat_tree.specs.Nested.{atomic, look, condition, call, ref, anchor, keep_out, verb, callout, none, more}
use Rattle.pat_tree.specs.Nested.{any_set, in_call, in_call_of, never, assert, called, no_other, other}
use Rattle.pat_tree.specs.Groups.{group_of}
use Rattle.pat_lengths.specs.Nodes.{captures, has_shared_number, nodes_outside_lookarounds, is_accept}
use Rattle.pat_lengths.specs.Lengths.{Lengths, SomeLengths, least_lengths, leads_back, branch_lengths}

abbrev pub Within : ℕ → Option ℕ → ℕ → Type 0
Within low None n = low ≤ n
Within low (Some high) n = (low ≤ n) × (n ≤ high)

-- one length and another add up to k
abbrev pub Sum : (ℕ → Type 0) → (ℕ → Type 0) → ℕ → Type 0
Sum P Q k = (i : ℕ) × (j : ℕ) × P i × Q j × (k ≡ i + j)

-- n lengths add up to k
unfoldable pub Turns : (ℕ → Type 0) → ℕ → ℕ → Type 0
Turns P zero k = k ≡ 0
Turns P (suc n) k = Sum P (Turns P n) k

abbrev pub AnyOr : Bool → Type 0 → Type 0
AnyOr true X = Unit {0}
AnyOr false X = X

-- `OfGroup n k` says that group n can match k characters
module _ (unset_matches : Bool) (whole : Nested) (OfGroup : ℕ → ℕ → Type 0) where
  abbrev pub RefHas : List ℕ → ℕ → Type 0
  RefHas (n ∷ []) k = AnyOr (unset_matches || has_shared_number whole) (OfGroup n k)
  RefHas _ k = Unit {0}

  unfoldable mutual
    -- the tree can match k characters
    pub HasLength : Nested → ℕ → Type 0
    HasLength empty k = k ≡ 0
    HasLength (one item) k = k ≡ 1
    HasLength line_break k = (k ≡ 1) ⊎ (k ≡ 2)
    HasLength (seq ts) k = InTurn ts k
    HasLength (group number ts) k = OneOf ts k
    HasLength (repeat t low high lazily) k = (n : ℕ) × Within low high n × Turns (HasLength t) n k
    HasLength (one_repeat item low high lazily) k = (n : ℕ) × Within low high n × Turns (λ i. i ≡ 1) n k
    HasLength (atomic ts) k = OneOf ts k
    HasLength (look ahead positive once ts) k = k ≡ 0
    HasLength (condition test first second) k = OfTest test (λ i. HasLength first i ⊎ OfOther second i) k
    HasLength (call n) k = OfGroup n k
    HasLength (ref ns caseless) k = RefHas ns k
    HasLength (anchor a) k = k ≡ 0
    HasLength keep_out k = k ≡ 0
    HasLength (verb v) k = k ≡ 0
    HasLength (callout c) k = k ≡ 0

    pub InTurn : Row → ℕ → Type 0
    InTurn none k = k ≡ 0
    InTurn (more t ts) k = Sum (HasLength t) (InTurn ts) k

    pub OneOf : Row → ℕ → Type 0
    OneOf none k = ⊥
    OneOf (more t ts) k = HasLength t k ⊎ OneOf ts k

    pub OfOther : Other → ℕ → Type 0
    OfOther no_other k = k ≡ 0
    OfOther (other t) k = HasLength t k

    pub OfTest : Test → (ℕ → Type 0) → ℕ → Type 0
    OfTest never P k = k ≡ 0
    OfTest (any_set ns) P k = P k
    OfTest in_call P k = P k
    OfTest (in_call_of ns) P k = P k
    OfTest (assert ahead positive once ts) P k = P k
    OfTest (called c test) P k = P k

-- b is the greatest length, or there is none
abbrev pub IsMost : (ℕ → Type 0) → Option ℕ → Type 0
IsMost P None = (m : ℕ) → (k : ℕ) × (m ≤ k) × P k
IsMost P (Some b) = P b × ((k : ℕ) → P k → k ≤ b)

pub record AreLengths (P : ℕ → Type 0) (a : Lengths) : Type 0 where
  pub least : P a.least
  pub low : (k : ℕ) → P k → a.least ≤ k
  pub most : IsMost P a.most

-- these are the least and the greatest length, or there is no length
abbrev pub AreSomeLengths : (ℕ → Type 0) → SomeLengths → Type 0
AreSomeLengths P None = (k : ℕ) → P k → ⊥
AreSomeLengths P (Some a) = AreLengths P a

-- Groups.

abbrev pub OfFound : (Nested → ℕ → Type 0) → Option Nested → ℕ → Type 0
OfFound P None k = ⊥
OfFound P (Some t) k = P t k

module _ (unset_matches : Bool) (whole : Nested) where
  -- group n can match k characters, by at most d calls and references inside one another
  unfoldable pub ByCalls : ℕ → ℕ → ℕ → Type 0
  ByCalls zero n k = ⊥
  ByCalls (suc d) n k = OfFound (HasLength unset_matches whole (ByCalls d)) (group_of whole n) k

  -- in a lookbehind a group that leads back to itself has any length
  unfoldable pub Behind : ℕ → ℕ → ℕ → Type 0
  Behind zero n k = ⊥
  Behind (suc d) n k =
      AnyOr (leads_back whole n) (OfFound (HasLength unset_matches whole (Behind d)) (group_of whole n) k)

  -- a branch of a lookbehind can match k characters
  abbrev pub BranchHas : Nested → ℕ → Type 0
  BranchHas t k =
      AnyOr (list_any is_accept (nodes_outside_lookarounds t))
      (HasLength unset_matches whole (Behind (suc (captures whole))) t k)

  -- the tree can match k characters, however many calls and references stand inside one another
  abbrev pub CanMatch : Nested → ℕ → Type 0
  CanMatch t k = (d : ℕ) × HasLength unset_matches whole (ByCalls d) t k

-- the least length of these is the least of all that the test holds of, or it holds of none
abbrev pub IsLeast : (ℕ → Type 0) → SomeLengths → Type 0
IsLeast P None = (k : ℕ) → P k → ⊥
IsLeast P (Some a) = P a.least × ((k : ℕ) → P k → a.least ≤ k)

-- What `least_lengths` and `branch_lengths` give are the least and the greatest of these lengths.
pub record LengthLaws : Type 0 where
  pub by_calls :
      (unset_matches : Bool) (whole t : Nested)
      → AreSomeLengths (HasLength unset_matches whole (ByCalls unset_matches whole (suc (captures whole))) t)
      (least_lengths unset_matches whole t)
  pub of_branches :
      (unset_matches : Bool) (whole t : Nested)
      → AreSomeLengths (BranchHas unset_matches whole t) (branch_lengths unset_matches whole t)
  -- one call more inside one another than there are groups is enough for the least length
  pub least :
      (unset_matches : Bool) (whole t : Nested)
      → IsLeast (CanMatch unset_matches whole t) (least_lengths unset_matches whole t)
