-- Reading an image whole.
use Rattle.std.specs.Prelude.{ℕ, Bool, ◌&&◌, ◌==◌, List, [], ◌∷◌, length, Option, Some, None, is_none, nat_le, codes}
use Rattle.std.specs.Prelude.{bytes_eq}
use Rattle.std.specs.Prelude.{if◌then◌else◌, take, drop}
use Rattle.std.specs.Int.{w32}
use Rattle.std.specs.List.{list_all}
use Rattle.pat_tree.specs.declared.options.Options.{Options}
use Rattle.pat_tree.specs.declared.nodes.Placed.{Placed}
use Rattle.pat_tree.specs.declared.nodes.ClassSpec.{ClassSpec}
use Rattle.pat_tree.specs.declared.names.NameEntry.{NameEntry}
use Rattle.pat_tree.specs.Growing.{loose}
use Rattle.pat_tree.specs.Parts.{TreeParts}
use Rattle.pat_tree.specs.Refs.{refs, has_group, bad_ref}
use Rattle.pat_tree.specs.Sound.{greatest, group_numbers}
use Rattle.pat_save.specs.declared.saved.Saved.{Saved}
use Rattle.pat_save.specs.Reading.{Reader, ◌>>=◌, number_at, joined, chosen, made, passing, gathered, counted_at}
use Rattle.pat_save.specs.ReadTables.{options_at, text_at, name_after, verb_name_at, class_at}
use Rattle.pat_save.specs.declared.taken_nodes.Around.{Around}
use Rattle.pat_save.specs.ReadNodes.{placed_after}

unfoldable pub nodes_at : Around → List ℕ → Reader (List Placed)
nodes_at around text = counted_at (placed_after around text)

-- the one number of a list
abbrev pub only_of : List ℕ → Option ℕ
only_of (x ∷ []) = Some x
only_of _ = None

-- nodes of which one alone is loose, the root
abbrev pub rooted : List Placed → Option (ℕ × List Placed)
rooted nodes = only_of (loose nodes) >>= λ root. Some (root, nodes)

unfoldable pub rooted_at : Around → List ℕ → Reader (ℕ × List Placed)
rooted_at around text = chosen rooted (nodes_at around text)

-- the names of groups, the names of verbs and the classes
abbrev pub Tables : Type 0
Tables = List NameEntry × (List (List ℕ) × List ClassSpec)

unfoldable pub tables_at : Bool → Reader Tables
tables_at utf = joined (counted_at name_after)
    (λ _. joined (counted_at (λ _. verb_name_at utf)) (λ _. counted_at (λ _. class_at utf)))

abbrev pub around_of : Bool → Tables → Around
around_of utf t = record { utf = utf; classes = length t.1.1; verb_names = length t.1.0 }

-- each group that is named stands on a node, and this is the greatest
abbrev pub names_stand : ℕ → List NameEntry → List Placed → Bool
names_stand most names nodes = list_all (λ entry. has_group nodes entry.group) names
    && is_none (bad_ref (has_group nodes) (refs nodes)) && greatest (group_numbers nodes) == most

abbrev pub tree_of : Options → Tables → ℕ → List Placed → TreeParts
tree_of options t root nodes = record {
  options = options;
  nodes = nodes;
  classes = t.1.1;
  names = t.0;
  verb_names = t.1.0;
  root = root;
}

unfoldable pub finished : Options → ℕ → Tables → ℕ → List Placed → Option TreeParts
finished options most t root nodes = if names_stand most t.0 nodes then Some (tree_of options t root nodes) else None

unfoldable pub tree_at : Options → List ℕ → Reader TreeParts
tree_at options text = chosen (λ x. finished options x.0 x.1.0 x.1.1.0 x.1.1.1) (joined (number_at w32)
    (λ _. joined (tables_at options.utf) (λ t. rooted_at (around_of options.utf t) text)))

unfoldable pub record_at : Reader Saved
record_at = made (λ x. record { tree = x.1.1; text = x.1.0 })
    (joined options_at (λ options. joined (text_at options.utf) (λ text. tree_at options text)))

-- at most 20 patterns
unfoldable pub records_at : Reader (List Saved)
records_at bytes = passing (λ n. nat_le n 20) (number_at w32) bytes >>= λ n. gathered (λ _. record_at) n.0 [] n.1

-- the patterns that all of the bytes are the image of
unfoldable pub list_of : List ℕ → Option (List Saved)
list_of bytes = if bytes_eq (take 4 bytes) (codes "PCP1") then (records_at (drop 4 bytes) >>= λ list.
    if length list.1 == 0 then Some list.0 else None) else None
