-- What a search goes by in a pattern.
use Rattle.std.specs.Prelude.{ℕ, List}
use Rattle.pat_tree.specs.declared.options.Options.{Options}
use Rattle.pat_tree.specs.declared.nodes.ClassSpec.{ClassSpec}
use Rattle.pat_tree.specs.Nested.{Nested}
use Rattle.pat_tree.specs.Parts.{TreeParts, tree_of}
use Rattle.pat_tree.specs.Sound.{greatest, group_numbers}

pub record Pattern : Type 0 where
  -- the options of the whole pattern, with those that its start items set
  pub options : Options
  pub tree : Nested
  -- the greatest number of a capturing group
  pub groups : ℕ
  -- in the order of reading
  pub classes : List ClassSpec
  pub verb_names : List (List ℕ)

-- that of a finished tree
abbrev pub pattern_of : TreeParts → Pattern
pattern_of t = record {
  options = t.options;
  tree = tree_of t;
  groups = greatest (group_numbers t.nodes);
  classes = t.classes;
  verb_names = t.verb_names;
}
