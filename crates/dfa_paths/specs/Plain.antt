-- Trees whose graphs nest nothing: their graphs have no atomic group and no lookaround.
use Rattle.std.specs.Prelude.{ℕ, zero, suc, Bool, true, false, ◌&&◌, ◌||◌, Option, Some, None}
use Rattle.pat_tree.specs.Nested as tree
use Rattle.pat_tree.specs.Nested.{Nested, Row, Test, Other}

-- no turn is made
abbrev pub is_never : Option ℕ → Bool
is_never None = false
is_never (Some zero) = true
is_never (Some (suc high)) = false

-- it has none, apart from the body of a repeat that makes no turn and from the branch of a condition
-- that is never taken
unfoldable mutual
  pub is_plain : Nested → Bool
  is_plain tree.empty = true
  is_plain (tree.one item) = true
  is_plain tree.line_break = true
  is_plain (tree.seq ts) = all_plain ts
  is_plain (tree.group number ts) = all_plain ts
  is_plain (tree.repeat body low high lazily) = is_never high || is_plain body
  is_plain (tree.one_repeat item low high lazily) = true
  is_plain (tree.atomic ts) = false
  is_plain (tree.look ahead positive once ts) = false
  is_plain (tree.condition test first second) = test_plain test (other_plain second)
  is_plain (tree.call n) = true
  is_plain (tree.ref ns caseless) = true
  is_plain (tree.anchor kind) = true
  is_plain tree.keep_out = true
  is_plain (tree.verb v) = true
  is_plain (tree.callout c) = true

  pub all_plain : Row → Bool
  all_plain tree.none = true
  all_plain (tree.more t ts) = is_plain t && all_plain ts

  pub test_plain : Test → Bool → Bool
  test_plain tree.never second = second
  test_plain tree.in_call second = second
  test_plain (tree.any_set ns) second = second
  test_plain (tree.in_call_of ns) second = second
  test_plain (tree.assert ahead positive once ts) second = false
  test_plain (tree.called c test) second = false

  pub other_plain : Other → Bool
  other_plain tree.no_other = true
  other_plain (tree.other t) = is_plain t
