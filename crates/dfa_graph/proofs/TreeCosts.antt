-- How many steps the building of a tree's graph takes at most.
use Rattle.std.proofs.Common.{◌≡◌, ◌∙◌, ℕ, ◌+◌, ◌*◌, ◌≤◌, Option, Some, None, ap, subst, arith}
use Rattle.std.proofs.lemmas.Nat.{mul-le}
use Rattle.std.proofs.Math.Nat.{add-mul, mul_left_comm}
use Rattle.pat_tree.specs.Nested as tree
use Rattle.pat_tree.specs.Nested.{Nested, Row, Test, Other}
use Rattle.pat_check.specs.Size.{copies, whole_size, size_of_all, size_of_test, size_of_other}

-- Costs.

-- so many turns, each of which takes c steps
abbrev pub turns_cost : ℕ → ℕ → Option ℕ → ℕ
turns_cost c low None = low * (1 + c) + (1 + c)
turns_cost c low (Some high) = high * (1 + c) + 1

unfoldable mutual
  pub cost : Nested → ℕ
  cost (tree.seq ts) = 1 + row_cost ts
  cost (tree.group number ts) = 1 + row_cost ts
  cost (tree.repeat body low high lazily) = 1 + turns_cost (1 + cost body) low high
  cost (tree.one_repeat item low high lazily) = 1 + turns_cost 1 low high
  cost (tree.condition test first second) =
      1 + test_cost test + cost first + other_cost second
  cost tree.empty = 1
  cost (tree.one item) = 1
  cost tree.line_break = 1
  cost (tree.atomic ts) = 1 + row_cost ts
  cost (tree.look ahead positive once ts) = 1 + row_cost ts
  cost (tree.call n) = 1
  cost (tree.ref ns caseless) = 1
  cost (tree.anchor kind) = 1
  cost tree.keep_out = 1
  cost (tree.verb v) = 1
  cost (tree.callout c) = 1

  pub row_cost : Row → ℕ
  row_cost tree.none = 1
  row_cost (tree.more t ts) = 1 + cost t + row_cost ts

  pub test_cost : Test → ℕ
  test_cost tree.never = 0
  test_cost tree.in_call = 0
  test_cost (tree.any_set ns) = 0
  test_cost (tree.in_call_of ns) = 0
  test_cost (tree.assert ahead positive once ts) = 1 + row_cost ts
  test_cost (tree.called c test) = 1 + test_cost test

  pub other_cost : Other → ℕ
  other_cost tree.no_other = 0
  other_cost (tree.other t) = cost t

abbrev pub body_cost : Nested → ℕ
body_cost (tree.repeat body low high lazily) = cost body
body_cost _ = 0

abbrev pub turn_cost : Nested → ℕ
turn_cost t = 1 + body_cost t

-- four steps a node at most

four_more : (x y z w d : ℕ) → y ≤ z → y ≡ x + d → z ≡ 4 * w → x + d ≤ 4 * w + 1
four_more x y z w d l a b = omega (arith, l, a, b)

four_less : (y z w : ℕ) → y ≤ z → z ≡ 4 * w → y + 1 ≤ 4 * w + 1
four_less y z w l b = omega (arith, l, b)

one_times : (n : ℕ) → 1 * n ≡ n
one_times n = omega arith

one_each : (n : ℕ) → n * 1 ≡ n
one_each n = omega arith

one_more : (low d : ℕ) → (low + 1) * d ≡ low * d + d
one_more low d = add-mul low 1 d ∙ ap (λ k. low * d + k) (one_times d)

turns_small : (c s low : ℕ) (high : Option ℕ) → 1 + c ≤ 4 * s →
    turns_cost c low high ≤ 4 * (copies low high * s) + 1
turns_small c s low None l =
    four_more (low * (1 + c)) ((low + 1) * (1 + c)) ((low + 1) * (4 * s)) ((low + 1) * s) (1 + c)
    (mul-le (low + 1) (1 + c) (low + 1) (4 * s) (omega arith) l)
    (one_more low (1 + c))
    (mul_left_comm (low + 1) 4 s)
turns_small c s low (Some high) l =
    four_less (high * (1 + c)) (high * (4 * s)) (high * s)
    (mul-le high (1 + c) high (4 * s) (omega arith) l)
    (mul_left_comm high 4 s)

four_each : (x y : ℕ) → x ≤ 4 * y + 1 → (1 + x) + 2 ≤ 4 * (1 + y)
four_each x y l = omega (arith, l)

leaf : 1 + 2 ≤ 4 * 1
leaf = omega arith

mutual
  unfolding cost whole_size

  pub small : (t : Nested) → cost t + 2 ≤ 4 * whole_size t
  small (tree.seq ts) =
      four_each (row_cost ts) (size_of_all ts) (let r = small_row ts in omega (arith, r))
  small (tree.group number ts) =
      four_each (row_cost ts) (size_of_all ts) (let r = small_row ts in omega (arith, r))
  small (tree.repeat body low high lazily) =
      four_each (turns_cost (1 + cost body) low high) (copies low high * whole_size body)
      (turns_small (1 + cost body) (whole_size body) low high
      (let s = small body in omega (arith, s)))
  small (tree.one_repeat item low high lazily) =
      four_each (turns_cost 1 low high) (copies low high)
      (subst (λ k. turns_cost 1 low high ≤ 4 * k + 1) (one_each (copies low high))
      (turns_small 1 1 low high (omega arith)))
  small (tree.condition test first second) =
      let r = small_other second in
      let a = small first in
      let b = small_test test in
      let m : (1 + test_cost test + cost first + other_cost second) + 2
      ≤ 4 * (1 + size_of_test test + whole_size first + size_of_other second) = omega
      (arith, r, a, b) in
      m
  small tree.empty = leaf
  small (tree.one item) = leaf
  small tree.line_break = leaf
  small (tree.atomic ts) =
      four_each (row_cost ts) (size_of_all ts) (let r = small_row ts in omega (arith, r))
  small (tree.look ahead positive once ts) =
      four_each (row_cost ts) (size_of_all ts) (let r = small_row ts in omega (arith, r))
  small (tree.call n) = leaf
  small (tree.ref ns caseless) = leaf
  small (tree.anchor kind) = leaf
  small tree.keep_out = leaf
  small (tree.verb v) = leaf
  small (tree.callout c) = leaf

  small_row : (ts : Row) → row_cost ts ≤ 1 + 4 * size_of_all ts
  small_row tree.none = let m : 1 ≤ 1 + 4 * 0 = omega arith in m
  small_row (tree.more t ts) =
      let a = small t in
      let b = small_row ts in
      let m : 1 + cost t + row_cost ts ≤ 1 + 4 * (whole_size t + size_of_all ts) = omega
      (arith, a, b) in
      m

  small_test : (test : Test) → test_cost test ≤ 4 * size_of_test test
  small_test tree.never = let m : 0 ≤ 4 * 0 = omega arith in m
  small_test tree.in_call = let m : 0 ≤ 4 * 0 = omega arith in m
  small_test (tree.any_set ns) = let m : 0 ≤ 4 * 0 = omega arith in m
  small_test (tree.in_call_of ns) = let m : 0 ≤ 4 * 0 = omega arith in m
  small_test (tree.assert ahead positive once ts) =
      let r = small_row ts in
      let m : 1 + row_cost ts ≤ 4 * (1 + size_of_all ts) = omega (arith, r) in m
  small_test (tree.called c test) =
      let r = small_test test in
      let m : 1 + test_cost test ≤ 4 * (2 + size_of_test test) = omega (arith, r) in m

  small_other : (o : Other) → other_cost o ≤ 4 * size_of_other o
  small_other tree.no_other = let m : 0 ≤ 4 * 0 = omega arith in m
  small_other (tree.other t) =
      let a = small t in let m : cost t ≤ 4 * whole_size t = omega (arith, a) in m

pub cost_of_small : (t : Nested) → whole_size t ≤ 65536 → cost t ≤ 349000
cost_of_small t l = let k = small t in omega (arith, k, l)
