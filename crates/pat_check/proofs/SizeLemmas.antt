-- The size of a node by those of its children.
use Rattle.std.proofs.Common.{◌≡◌, ℕ, ◌+◌, Bool, true, List, [], ◌∷◌, ◌++◌, map, Option, Some, None, All, refl, ap}
use Rattle.std.proofs.Common.{arith, min}
use Rattle.std.proofs.lemmas.List.Elements.{All-head, All-tail}
use Rattle.pat_tree.specs.declared.nodes.Cond.{Cond}
use Rattle.pat_tree.specs.declared.nodes.Cond.TheVariants.{AnySet, InCall, InCallOf, Never, Assert}
use Rattle.pat_tree.specs.declared.nodes.Node.{Node}
use Rattle.pat_tree.specs.declared.nodes.Node.TheVariants as node
use Rattle.pat_tree.specs.Nested.{Nested, tree_at, row, nest, test_of, cond_of, other_of}
use Rattle.pat_tree.specs.Rules.{kids_of, tests_of, number_in, asserted_by, is_test}
use Rattle.pat_lengths.specs.Lengths.{counted}
use Rattle.pat_lengths.proofs.CountLemmas.{counted_both}
use Rattle.pat_lengths.proofs.OrderLemmas.{by_test}
use Rattle.pat_check.specs.Size.{whole_size, size_of_all, size_of_test, size_of_other, size, counted_sum}

-- the sizes of these trees together
abbrev pub total : List Nested → List ℕ → ℕ
total trees [] = 0
total trees (k ∷ ks) = whole_size (tree_at trees k) + total trees ks

pub sums : (trees : List Nested) (f : ℕ → ℕ) (ks : List ℕ) → All (λ k. f k ≡ size (tree_at trees k)) ks
    → counted_sum f ks ≡ counted (total trees ks)
sums trees f [] h = omega arith
sums trees f (k ∷ ks) h =
    rw (
      All-head (λ k. f k ≡ size (tree_at trees k)) k ks h,
      sums trees f ks (All-tail (λ k. f k ≡ size (tree_at trees k)) k ks h),
    )
    (counted_both (whole_size (tree_at trees k)) (total trees ks))

row_size : (trees : List Nested) (ks : List ℕ) → size_of_all (row (map (tree_at trees) ks)) ≡ total trees ks
unfolding whole_size
row_size trees [] = refl
row_size trees (k ∷ ks) = ap (λ n. whole_size (tree_at trees k) + n) (row_size trees ks)

tested_size : (t : Nested) → is_test t ≡ true → size_of_test (test_of t) ≡ whole_size t
unfolding whole_size
tested_size t h = by_test (λ t. size_of_test (test_of t) ≡ whole_size t) (λ ahead positive once ts. refl)
    (λ c ahead positive once ts. omega arith) t h

test_size : (trees : List Nested) (test : Cond) → All (λ k. is_test (tree_at trees k) ≡ true) (tests_of test)
    → size_of_test (cond_of trees test) ≡ total trees (tests_of test)
unfolding whole_size
test_size trees (AnySet groups) h = refl
test_size trees InCall h = refl
test_size trees (InCallOf groups) h = refl
test_size trees Never h = refl
test_size trees (Assert k) h = let e = tested_size (tree_at trees k)
    (All-head (λ k. is_test (tree_at trees k) ≡ true) k [] h) in omega (arith, e)

second_size : (trees : List Nested) (second : Option ℕ)
    → size_of_other (other_of trees second) ≡ total trees (number_in second)
unfolding whole_size
second_size trees None = refl
second_size trees (Some k) = omega arith

total_append : (trees : List Nested) (xs ys : List ℕ) → total trees (xs ++ ys) ≡ total trees xs + total trees ys
total_append trees [] ys = omega arith
total_append trees (x ∷ xs) ys = let e = total_append trees xs ys in omega (arith, e)

-- written once
abbrev pub IsOnce : Node → Type 0
IsOnce (node.Repeat body min max lazy) = ⊥
IsOnce (node.OneRepeat item min max lazy) = ⊥
IsOnce _ = Unit {0}

pub size_first : (trees : List Nested) (n : Node) → IsOnce n
    → All (λ k. is_test (tree_at trees k) ≡ true) (asserted_by n)
    → whole_size (nest trees n) ≡ 1 + total trees (kids_of n)
unfolding whole_size
size_first trees node.Empty o h = refl
size_first trees (node.One item) o h = refl
size_first trees node.Break o h = refl
size_first trees (node.Seq kids) o h = ap (λ n. 1 + n) (row_size trees kids)
size_first trees (node.Group number branches) o h = ap (λ n. 1 + n) (row_size trees branches)
size_first trees (node.Repeat body min max lazy) o h = absurd o
size_first trees (node.OneRepeat item min max lazy) o h = absurd o
size_first trees (node.Atomic branches) o h = ap (λ n. 1 + n) (row_size trees branches)
size_first trees (node.Look ahead positive once branches) o h = ap (λ n. 1 + n) (row_size trees branches)
size_first trees (node.Cond test first second) o h =
    let a = test_size trees test h in
    let b = second_size trees second in
    let e = total_append trees (tests_of test) (first ∷ number_in second) in
    omega (arith, a, b, e)
size_first trees (node.Call n) o h = refl
size_first trees (node.Ref groups caseless) o h = refl
size_first trees (node.Anchor kind) o h = refl
size_first trees node.KeepOut o h = refl
size_first trees (node.VerbNode v) o h = refl
size_first trees (node.Callout number from to at len) o h = refl

pub no_repeat : (n : Node) → ((w x : ℕ) (y : Option ℕ) (z : Bool) → n ≡ node.Repeat w x y z → ⊥)
    → ((w : _) (x : ℕ) (y : Option ℕ) (z : Bool) → n ≡ node.OneRepeat w x y z → ⊥) → IsOnce n
no_repeat (node.Repeat body min max lazy) a b = a body min max lazy refl
no_repeat (node.OneRepeat item min max lazy) a b = b item min max lazy refl
no_repeat _ a b = tt
