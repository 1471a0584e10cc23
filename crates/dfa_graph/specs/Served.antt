-- Which trees have a graph, and why others have none (pcre2api, "Error returns from
-- pcre2_dfa_match()").
use Rattle.std.specs.Prelude.{◌≡◌, ℕ, zero, suc, Bool, true, false, ◌&&◌, ◌||◌, Option, Some, None, nat_lt}
use Rattle.pat_tree.specs.declared.nodes.Verb.{Verb}
use Rattle.pat_tree.specs.declared.nodes.Verb.TheVariants.{Fail}
use Rattle.pat_tree.specs.Nested as tree
use Rattle.pat_tree.specs.Nested.{Nested, Row, Test, Other}
use Rattle.pat_check.specs.Size.{size}
use Rattle.pat_check.specs.Support.{dfa_support}
use Rattle.pat_check.specs.declared.support.DfaSupport.{DfaSupport}
use Rattle.pat_check.specs.declared.support.DfaSupport.TheVariants as support
use Rattle.dfa_paths.specs.Plain.{is_never}
use Rattle.dfa_paths.specs.Fragment.{most_nested}
use Rattle.dfa_graph.specs.declared.making.GraphError.{GraphError}
use Rattle.dfa_graph.specs.declared.making.GraphError.TheVariants.{Item, Cond, TooLarge, Memory}

abbrev pub is_fail : Verb → Bool
is_fail (Fail name) = true
is_fail _ = false

-- The forms of which a graph is made, so many levels deep: all that are supported.
unfoldable mutual
  pub has_fragment : Nested → ℕ → Bool
  has_fragment tree.empty d = true
  has_fragment (tree.one item) d = true
  has_fragment tree.line_break d = true
  has_fragment (tree.seq ts) d = all_have ts d
  has_fragment (tree.group number ts) d = all_have ts d
  has_fragment (tree.repeat body low high lazily) d = is_never high || has_fragment body d
  has_fragment (tree.one_repeat item low high lazily) d = true
  has_fragment (tree.atomic ts) zero = false
  has_fragment (tree.atomic ts) (suc d) = all_have ts d
  has_fragment (tree.look ahead positive once ts) zero = false
  has_fragment (tree.look ahead positive once ts) (suc d) = all_have ts d
  has_fragment (tree.condition test first second) d =
      test_has test d (has_fragment first d) (other_has second d)
  has_fragment (tree.call n) d = false
  has_fragment (tree.ref ns caseless) d = false
  has_fragment (tree.anchor kind) d = true
  has_fragment tree.keep_out d = false
  has_fragment (tree.verb v) d = is_fail v
  has_fragment (tree.callout c) d = true

  pub all_have : Row → ℕ → Bool
  all_have tree.none d = true
  all_have (tree.more t ts) d = has_fragment t d && all_have ts d

  -- a condition that is false is its second branch
  pub test_has : Test → ℕ → Bool → Bool → Bool
  test_has tree.never d first second = second
  test_has tree.in_call d first second = second
  test_has (tree.any_set ns) d first second = false
  test_has (tree.in_call_of ns) d first second = false
  test_has (tree.assert ahead positive once ts) zero first second = false
  test_has (tree.assert ahead positive once ts) (suc d) first second =
      all_have ts d && (first && second)
  test_has (tree.called c test) d first second = test_has test d first second

  pub other_has : Other → ℕ → Bool
  other_has tree.no_other d = true
  other_has (tree.other t) d = has_fragment t d

abbrev pub has_graph : Nested → Bool
has_graph t = has_fragment t most_nested

-- why there is no graph of a tree that has so many nodes, and the forms of which a graph is made
abbrev pub unless_built : Bool → Option GraphError
unless_built true = None
unless_built false = Some TooLarge

abbrev pub unless_small : Bool → Bool → Option GraphError
unless_small true built = Some TooLarge
unless_small false built = unless_built built

abbrev pub unless_supported : DfaSupport → Option GraphError → Option GraphError
unless_supported support.Item later = Some Item
unless_supported support.Cond later = Some Cond
unless_supported support.Yes later = later

-- Why a tree has no graph: a part of it isn't supported, the leftmost decides; or it is too large: it
-- has more than 65,536 nodes with its repeats written out, or its atomic groups and lookarounds stand
-- more than 512 deep in each other, which those of a pattern that was read never do, since a pattern
-- nests at most 250 parentheses.
abbrev pub refusal : Nested → Option GraphError
refusal t =
    unless_supported (dfa_support t) (unless_small (nat_lt 65536 (size t)) (has_graph t))

-- want of memory may come at any time
abbrev pub IsRefused : Nested → GraphError → Type 0
IsRefused t Memory = Unit {0}
IsRefused t e = refusal t ≡ Some e
