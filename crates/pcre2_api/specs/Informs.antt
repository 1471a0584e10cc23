-- What is told of a pattern, by what it is read as (pcre2api, "Information about a compiled
-- pattern").
use Rattle.std.specs.Prelude.{ℕ, max, if◌then◌else◌, List, [], ◌∷◌, map}
use Rattle.pat_tree.specs.Nested.{Nested, Row, look, none, more}
use Rattle.pat_tree.specs.Pattern.{Pattern}
use Rattle.pat_lengths.specs.Backs.{length_of}
use Rattle.pat_lengths.specs.Lengths.{branch_lengths, can_be_empty}
use Rattle.pat_lengths.specs.Nodes.{all_nodes, tests_before}
use Rattle.pcre2_api.specs.declared.code.Info.{Info}

abbrev pub greatest_of : List ℕ → ℕ
greatest_of [] = 0
greatest_of (n ∷ ns) = max n (greatest_of ns)

module _ (p : Pattern) where
  -- the length of the longest of these branches
  abbrev pub longest_branch : Row → ℕ
  longest_branch none = 0
  longest_branch (more t ts) =
      max (length_of (branch_lengths p.options.match_unset_backref p.tree t)) (longest_branch ts)

  -- how far a node looks back, where it is a lookbehind
  abbrev pub length_behind : Nested → ℕ
  length_behind (look ahead positive once ts) = if ahead then 0 else longest_branch ts
  length_behind _ = 0

  -- the length of the longest branch of a lookbehind, 0 where there is none
  abbrev pub greatest_behind : ℕ
  greatest_behind = greatest_of (map length_behind (all_nodes p.tree))

  abbrev pub info_in : Info
  info_in = record {
    groups = p.groups;
    max_lookbehind = max greatest_behind (if tests_before p.tree then 1 else 0);
    can_be_empty = can_be_empty p.options.match_unset_backref p.tree;
  }
