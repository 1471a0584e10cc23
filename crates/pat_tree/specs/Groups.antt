-- The groups of a nested tree.
use Rattle.std.specs.Prelude.{ℕ, Option, Some, None, ◌==◌, if◌then◌else◌}
use Rattle.std.specs.Option.{option_or}
use Rattle.pat_tree.specs.Nested.{Nested, Row, Test, Other, empty, one, line_break, seq, group, repeat, one_repeat}
use Rattle.pat_tree.specs.Nested.{atomic, look, condition, call, ref, anchor, keep_out, verb, callout, none, more}
use Rattle.pat_tree.specs.Nested.{any_set, in_call, in_call_of, never, assert, called, no_other, other}

-- the leftmost capturing group of this number, a tree standing before its children
abbrev mutual
  pub find_group : ℕ → Nested → Option Nested
  find_group n empty = None
  find_group n (one item) = None
  find_group n line_break = None
  find_group n (seq ts) = find_in n ts
  find_group n (group None ts) = find_in n ts
  find_group n (group (Some m) ts) = if m == n then Some (group (Some m) ts) else find_in n ts
  find_group n (repeat t low high lazy) = find_group n t
  find_group n (one_repeat item low high lazy) = None
  find_group n (atomic ts) = find_in n ts
  find_group n (look ahead positive once ts) = find_in n ts
  find_group n (condition test first second) = option_or (find_test n test)
      (option_or (find_group n first) (find_other n second))
  find_group n (call m) = None
  find_group n (ref ms caseless) = None
  find_group n (anchor kind) = None
  find_group n keep_out = None
  find_group n (verb v) = None
  find_group n (callout c) = None

  pub find_in : ℕ → Row → Option Nested
  find_in n none = None
  find_in n (more t ts) = option_or (find_group n t) (find_in n ts)

  pub find_test : ℕ → Test → Option Nested
  find_test n (any_set ms) = None
  find_test n in_call = None
  find_test n (in_call_of ms) = None
  find_test n never = None
  find_test n (assert ahead positive once ts) = find_in n ts
  find_test n (called c test) = find_test n test

  pub find_other : ℕ → Other → Option Nested
  find_other n no_other = None
  find_other n (other t) = find_group n t

-- group 0 is the whole pattern
abbrev pub group_of : Nested → ℕ → Option Nested
group_of whole n = if n == 0 then Some whole else find_group n whole
