-- What a draft and a finished tree hold.
use Rattle.std.specs.Prelude.{ℕ, List, ◌∷◌, ◌++◌, []}
use Rattle.pat_tree.specs.declared.options.Options.{Options}
use Rattle.pat_tree.specs.declared.nodes.Placed.{Placed}
use Rattle.pat_tree.specs.declared.nodes.ClassSpec.{ClassSpec}
use Rattle.pat_tree.specs.declared.names.NameEntry.{NameEntry}
use Rattle.pat_tree.specs.Nested.{Nested, tree_at, trees}

-- nodes, classes and verb names are numbered from 0 in the order of adding
pub record DraftParts : Type 0 where
  pub options : Options
  pub nodes : List Placed
  pub classes : List ClassSpec
  pub names : List NameEntry
  pub verb_names : List (List ℕ)

-- a finished tree has a root besides
pub record TreeParts : Type 0 where
  pub options : Options
  pub nodes : List Placed
  pub classes : List ClassSpec
  pub names : List NameEntry
  pub verb_names : List (List ℕ)
  pub root : ℕ

abbrev pub with_node : DraftParts → Placed → DraftParts
with_node d p = record d { nodes = d.nodes ++ p ∷ [] }

abbrev pub with_class : DraftParts → ClassSpec → DraftParts
with_class d spec = record d { classes = d.classes ++ spec ∷ [] }

abbrev pub with_verb_name : DraftParts → List ℕ → DraftParts
with_verb_name d name = record d { verb_names = d.verb_names ++ name ∷ [] }

abbrev pub with_root : DraftParts → ℕ → TreeParts
with_root d root = record {
  options = d.options;
  nodes = d.nodes;
  classes = d.classes;
  names = d.names;
  verb_names = d.verb_names;
  root = root;
}

-- the nested value that a tree stands for
abbrev pub tree_of : TreeParts → Nested
tree_of t = tree_at (trees t.nodes) t.root
