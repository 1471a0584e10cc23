-- Which trees can match an empty text, by their least lengths.
use Rattle.std.proofs.Common.{◌≡◌, ◌∙◌, ℕ, zero, suc, ◌+◌, ◌*◌, ◌||◌, ◌&&◌, ◌==◌, nat_le, min, Bool, true, false}
use Rattle.std.proofs.Common.{List, [], ◌∷◌, Option, Some, None, refl, sym, ap, arith}
use Rattle.pat_tree.specs.Nested as tree
use Rattle.pat_tree.specs.Nested.{Nested, Row, Test, Other}
use Rattle.pat_lengths.specs.Nodes.{has_shared_number}
use Rattle.pat_lengths.specs.Lengths.{SomeLengths, between, only, in_turn, either, in_some_turns, in_turns, of_ref}
use Rattle.pat_lengths.specs.Lengths.{lengths, lengths_in_turn, lengths_of_one, lengths_of_other, of_test}
use Rattle.pat_lengths.specs.Passing.{has_zero, is_at_most, ref_passes, passes, all_pass, some_passes, other_passes}
use Rattle.pat_lengths.specs.Passing.{test_passes}

sum_zero : (a b : ℕ) → (a + b == 0) ≡ (a == 0 && b == 0)
sum_zero a b = grind arith

min_zero : (a b : ℕ) → (min a b == 0) ≡ (a == 0 || b == 0)
min_zero a b = grind arith

zero_in_turn : (x y : SomeLengths) → has_zero (in_turn x y) ≡ (has_zero x && has_zero y)
zero_in_turn None y = refl
zero_in_turn (Some a) None = and_no (a.least == 0)
  where
    and_no : (b : Bool) → false ≡ (b && false)
    and_no true = refl
    and_no false = refl
zero_in_turn (Some a) (Some b) = sum_zero a.least b.least

zero_either : (x y : SomeLengths) → has_zero (either x y) ≡ (has_zero x || has_zero y)
zero_either None y = refl
zero_either (Some a) None = or_no (a.least == 0)
  where
    or_no : (b : Bool) → b ≡ (b || false)
    or_no true = refl
    or_no false = refl
zero_either (Some a) (Some b) = min_zero a.least b.least

times_zero : (n a : ℕ) → (suc n * a == 0) ≡ (a == 0)
times_zero n a = grind arith

suc_not : (n : ℕ) → (suc n == 0) ≡ false
suc_not n = grind arith

no_times : (a : ℕ) → (0 * a == 0) ≡ true
no_times a = grind arith

zero_in_some : (low : ℕ) (high : Option ℕ) (x : SomeLengths)
    → has_zero (in_some_turns low high x) ≡ (low == 0 || has_zero x)
zero_in_some zero high None = refl
zero_in_some (suc n) high None = rw (suc_not n) refl
zero_in_some zero high (Some a) = no_times a.least
zero_in_some (suc n) high (Some a) = times_zero n a.least ∙ sym (ap (λ b. b || a.least == 0) (suc_not n))

zero_in_turns : (low : ℕ) (high : Option ℕ) (x : SomeLengths)
    → has_zero (in_turns low high x) ≡ (is_at_most low high && (low == 0 || has_zero x))
zero_in_turns low None x = zero_in_some low None x
zero_in_turns low (Some high) x = within (nat_le low high)
  where
    within : (b : Bool)
        → has_zero (elim b as (λ b. SomeLengths) [ true ↦ in_some_turns low (Some high) x | false ↦ None ])
        ≡ (b && (low == 0 || has_zero x))
    within true = zero_in_some low (Some high) x
    within false = refl

or_none : (b : Bool) → (b || false) ≡ b
or_none true = refl
or_none false = refl

module _ (unset : Bool) (whole : Nested) (of_group : ℕ → SomeLengths) where
  abbrev any : Bool
  any = unset || has_shared_number whole

  abbrev can : ℕ → Bool
  can n = has_zero (of_group n)

  zero_ref : (ns : List ℕ) → has_zero (of_ref unset whole of_group ns) ≡ ref_passes any can ns
  zero_ref [] = refl
  zero_ref (n ∷ []) = one any
    where
      one : (b : Bool) → has_zero (elim b as (λ b. SomeLengths) [ true ↦ between 0 None | false ↦ of_group n ])
          ≡ (b || can n)
      one true = refl
      one false = refl
  zero_ref (n ∷ m ∷ ns) = refl

  mutual
    unfolding lengths passes

    pub zero_is : (t : Nested) → has_zero (lengths unset whole of_group t) ≡ passes any can t
    zero_is tree.empty = refl
    zero_is (tree.one item) = refl
    zero_is tree.line_break = refl
    zero_is (tree.seq ts) = zeros_in_turn ts
    zero_is (tree.group number ts) = zeros_of_one ts
    zero_is (tree.repeat t low high lazily) = zero_in_turns low high (lengths unset whole of_group t)
        ∙ ap (λ b. is_at_most low high && (low == 0 || b)) (zero_is t)
    zero_is (tree.one_repeat item low high lazily) = zero_in_turns low high (only 1)
        ∙ ap (λ b. is_at_most low high && b) (or_none (low == 0))
    zero_is (tree.atomic ts) = zeros_of_one ts
    zero_is (tree.look ahead positive once ts) = refl
    zero_is (tree.condition test first second) =
        zero_of_test test (either (lengths unset whole of_group first) (lengths_of_other unset whole of_group second))
        _
        (zero_either (lengths unset whole of_group first) (lengths_of_other unset whole of_group second)
        ∙ rw (zero_is first, zero_of_other second) refl)
    zero_is (tree.call n) = refl
    zero_is (tree.ref ns caseless) = zero_ref ns
    zero_is (tree.anchor a) = refl
    zero_is tree.keep_out = refl
    zero_is (tree.verb v) = refl
    zero_is (tree.callout c) = refl

    zeros_in_turn : (ts : Row) → has_zero (lengths_in_turn unset whole of_group ts) ≡ all_pass any can ts
    zeros_in_turn tree.none = refl
    zeros_in_turn (tree.more t ts) = zero_in_turn (lengths unset whole of_group t)
        (lengths_in_turn unset whole of_group ts) ∙ rw (zero_is t, zeros_in_turn ts) refl

    zeros_of_one : (ts : Row) → has_zero (lengths_of_one unset whole of_group ts) ≡ some_passes any can ts
    zeros_of_one tree.none = refl
    zeros_of_one (tree.more t ts) = zero_either (lengths unset whole of_group t)
        (lengths_of_one unset whole of_group ts) ∙ rw (zero_is t, zeros_of_one ts) refl

    zero_of_other : (o : Other) → has_zero (lengths_of_other unset whole of_group o) ≡ other_passes any can o
    zero_of_other tree.no_other = refl
    zero_of_other (tree.other t) = zero_is t

    zero_of_test : (test : Test) (x : SomeLengths) (b : Bool) → has_zero x ≡ b
        → has_zero (of_test unset whole of_group test x) ≡ test_passes any can test b
    zero_of_test tree.never x b h = refl
    zero_of_test (tree.any_set ns) x b h = h
    zero_of_test tree.in_call x b h = h
    zero_of_test (tree.in_call_of ns) x b h = h
    zero_of_test (tree.assert ahead positive once ts) x b h = h
    zero_of_test (tree.called c test) x b h = h
