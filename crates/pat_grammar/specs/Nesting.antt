-- How deep the atomic groups and the lookarounds of a tree stand in each other.
use Rattle.std.specs.Prelude.{ℕ, suc, max}
use Rattle.pat_tree.specs.Nested.{Nested, Row, Test, Other, empty, one, line_break, seq, group, repeat, one_repeat}
use Rattle.pat_tree.specs.Nested.{atomic, look, condition, call, ref, anchor, keep_out, verb, callout, none, more}
use Rattle.pat_tree.specs.Nested.{any_set, in_call, in_call_of, never, assert, called, no_other, other}

unfoldable mutual
  pub nesting : Nested → ℕ
  nesting empty = 0
  nesting (one item) = 0
  nesting line_break = 0
  nesting (seq ts) = nesting_of_row ts
  nesting (group number ts) = nesting_of_row ts
  nesting (repeat t low high lazily) = nesting t
  nesting (one_repeat item low high lazily) = 0
  nesting (atomic ts) = suc (nesting_of_row ts)
  nesting (look ahead positive once ts) = suc (nesting_of_row ts)
  nesting (condition test first second) =
      max (nesting_of_test test) (max (nesting first) (nesting_of_other second))
  nesting (call n) = 0
  nesting (ref ns caseless) = 0
  nesting (anchor a) = 0
  nesting keep_out = 0
  nesting (verb v) = 0
  nesting (callout c) = 0

  pub nesting_of_row : Row → ℕ
  nesting_of_row none = 0
  nesting_of_row (more t ts) = max (nesting t) (nesting_of_row ts)

  pub nesting_of_test : Test → ℕ
  nesting_of_test (any_set ns) = 0
  nesting_of_test in_call = 0
  nesting_of_test (in_call_of ns) = 0
  nesting_of_test never = 0
  nesting_of_test (assert ahead positive once ts) = suc (nesting_of_row ts)
  nesting_of_test (called c test) = nesting_of_test test

  pub nesting_of_other : Other → ℕ
  nesting_of_other no_other = 0
  nesting_of_other (other t) = nesting t
