-- The ordered search: the stream of a tree from a state.
use Rattle.std.specs.Prelude.{ℕ, zero, suc, true, false, List, [], ◌∷◌}
use Rattle.pat_tree.specs.Nested as tree
use Rattle.pat_tree.specs.Nested.{Row, Test, Other}
use Rattle.ordered_search.specs.Stream.{cut, by_halt, reached, Search, ends, gives}
use Rattle.ordered_search.specs.Setting.{Setting, branch_lengths}
use Rattle.ordered_search.specs.Tests.{run_one, run_break, run_many, run_ref, run_anchor}
use Rattle.ordered_search.specs.Parts.{Searches, in_order, branches, run_group, run_behind, run_atomic, run_look}
use Rattle.ordered_search.specs.Parts.{asserts, tests, some_set, is_called, is_called_of, run_callout, run_verb}
use Rattle.ordered_search.specs.Parts.{run_repeat, run_call}

module _ (g : Setting) where
  module _ (below : Searches) where
    unfoldable mutual
      pub level : Searches
      level tree.empty s = gives reached s
      level (tree.one item) s = run_one g item s
      level tree.line_break s = run_break g s
      level (tree.seq ts) s = in_order (levels ts) s
      level (tree.group number ts) s = run_group g number (branches g (levels ts)) s
      level (tree.repeat body low high lazily) s = run_repeat g below body low high lazily s
      level (tree.one_repeat item low high lazily) s = run_many g item low high lazily s
      level (tree.atomic ts) s = run_atomic g (branches g (levels ts)) s
      level (tree.look true positive once ts) s = run_look g positive once (branches g (levels ts)) s
      level (tree.look false positive once ts) s = run_look g positive once (branches g (levels_behind ts)) s
      level (tree.condition test first second) s = level_test test (level first) (level_other second) s
      level (tree.call n) s = run_call g below n s
      level (tree.ref ns caseless) s = run_ref g ns caseless s
      level (tree.anchor kind) s = run_anchor g kind s
      level tree.keep_out s = gives reached (record s { keep = s.place })
      level (tree.verb v) s = run_verb g v s
      level (tree.callout c) s = run_callout g c (gives reached) s

      pub levels : Row → List Search
      levels tree.none = []
      levels (tree.more t ts) = level t ∷ levels ts

      -- the branches of a lookbehind
      pub levels_behind : Row → List Search
      levels_behind tree.none = []
      levels_behind (tree.more t ts) = run_behind g (branch_lengths g t) (level t) ∷ levels_behind ts

      -- the test, what follows where it is true, and where it is false
      pub level_test : Test → Search → Search → Search
      level_test (tree.any_set ns) f f' s = tests (some_set s.caps ns) f f' s
      level_test tree.in_call f f' s = tests (is_called s.calls) f f' s
      level_test (tree.in_call_of ns) f f' s = tests (is_called_of s.calls ns) f f' s
      level_test tree.never f f' s = f' s
      level_test (tree.assert true positive once ts) f f' s = asserts g positive (branches g (levels ts)) f f' s
      level_test (tree.assert false positive once ts) f f' s = asserts g positive (branches g (levels_behind ts)) f f' s
      level_test (tree.called c test) f f' s = run_callout g c (level_test test f f') s

      pub level_other : Other → Search
      level_other tree.no_other s = gives reached s
      level_other (tree.other t) s = level t s

  -- `run g d t s`: the stream of t from s, with depth d. A turn of a group repeat and a call go a level deeper.
  unfoldable pub run : ℕ → Searches
  run zero t s = ends (by_halt cut)
  run (suc d) t s = level (run d) t s
