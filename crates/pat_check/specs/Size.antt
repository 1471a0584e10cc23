-- The size of a tree with its repeats written out.
use Rattle.std.specs.Prelude.{◌≡◌, ◌<◌, ℕ, ◌+◌, ◌*◌, List, [], ◌∷◌, length, Option, Some, None, slice_index_or}
use Rattle.pat_lengths.specs.Lengths.{counted}
use Rattle.pat_tree.specs.Nested.{Nested, tree_at, Row, Test, Other, empty, one, line_break, seq, group, repeat}
use Rattle.pat_tree.specs.Nested.{one_repeat, atomic, look, condition, call, ref, anchor, keep_out, verb, callout}
use Rattle.pat_tree.specs.Nested.{none, more, any_set, in_call, in_call_of, never, assert, called, no_other, other}

-- how often the body of a repeat is written: without a maximum one more time than the minimum
abbrev pub copies : ℕ → Option ℕ → ℕ
copies low (Some high) = high
copies low None = low + 1

unfoldable mutual
  pub whole_size : Nested → ℕ
  whole_size empty = 1
  whole_size (one item) = 1
  whole_size line_break = 1
  whole_size (seq ts) = 1 + size_of_all ts
  whole_size (group number ts) = 1 + size_of_all ts
  whole_size (repeat t low high lazily) = 1 + copies low high * whole_size t
  whole_size (one_repeat item low high lazily) = 1 + copies low high
  whole_size (atomic ts) = 1 + size_of_all ts
  whole_size (look ahead positive once ts) = 1 + size_of_all ts
  whole_size (condition test first second) = 1 + size_of_test test + whole_size first + size_of_other second
  whole_size (call n) = 1
  whole_size (ref ns caseless) = 1
  whole_size (anchor a) = 1
  whole_size keep_out = 1
  whole_size (verb v) = 1
  whole_size (callout c) = 1

  pub size_of_all : Row → ℕ
  size_of_all none = 0
  size_of_all (more t ts) = whole_size t + size_of_all ts

  -- a lookaround that is a test is a node, and a callout before it is in a sequence with it
  pub size_of_test : Test → ℕ
  size_of_test (any_set ns) = 0
  size_of_test in_call = 0
  size_of_test (in_call_of ns) = 0
  size_of_test never = 0
  size_of_test (assert ahead positive once ts) = 1 + size_of_all ts
  size_of_test (called c test) = 2 + size_of_test test

  pub size_of_other : Other → ℕ
  size_of_other no_other = 0
  size_of_other (other t) = whole_size t

-- numbers past 32 bits stay at the greatest
abbrev pub size : Nested → ℕ
size t = counted (whole_size t)

-- As it is kept.

-- a sum that stays at the greatest number of 32 bits
abbrev pub counted_sum : (ℕ → ℕ) → List ℕ → ℕ
counted_sum of [] = 0
counted_sum of (k ∷ ks) = counted (of k + counted_sum of ks)

abbrev pub size_at : List ℕ → ℕ → ℕ
size_at sizes k = slice_index_or sizes k 0

-- what is kept of the first nodes is their sizes
abbrev pub KeepSizes : List Nested → List ℕ → Type 0
KeepSizes trees sizes = (k : ℕ) → k < length sizes → size_at sizes k ≡ size (tree_at trees k)
