-- The run of one item that a pattern begins with.
use Rattle.std.specs.Prelude.{◌≡◌, ◌<◌, ◌||◌, ℕ, Bool, true, false, [], ◌∷◌, All, length, Option, Some, None}
use Rattle.pat_tree.specs.declared.nodes.Item.{Item}
use Rattle.pat_tree.specs.declared.nodes.Cond.{Cond}
use Rattle.pat_tree.specs.declared.nodes.Cond.TheVariants.{Never, Assert}
use Rattle.pat_tree.specs.declared.nodes.Node.{Node}
use Rattle.pat_tree.specs.declared.nodes.Node.TheVariants as node
use Rattle.pat_tree.specs.declared.options.PartialMode.TheVariants.{Off}
use Rattle.pat_tree.specs.Parts.{TreeParts, tree_of}
use Rattle.pat_tree.specs.Rules.{class_in}
use Rattle.match_items.specs.declared.view.View.{View}
use Rattle.frame_machine.specs.frame_board.Ready.{setting_for}
use Rattle.ordered_search.specs.LaterPlaces.{BeginsWithRun, first_run}
use Rattle.ordered_search.specs.Plain.{IsPlain}
use Rattle.match_starts.specs.Asked.{passed_over}

-- a condition whose test goes by the place alone
abbrev pub is_plain_test : Cond → Bool
is_plain_test Never = true
is_plain_test (Assert k) = true
is_plain_test _ = false

-- a node that goes by the place alone
abbrev pub is_plain : Node → Bool
is_plain (node.Cond test yes' no') = is_plain_test test
is_plain (node.Call n) = false
is_plain (node.Ref groups caseless) = false
is_plain (node.VerbNode v) = false
is_plain (node.Callout number from to at len) = false
is_plain _ = true

-- the part that a node begins with: that of a sequence, or a group's only branch
abbrev pub first_part : Node → Option ℕ
first_part (node.Seq (k ∷ ks)) = Some k
first_part (node.Group number (k ∷ [])) = Some k
first_part _ = None

-- the item of a greedy repeat without a maximum
abbrev pub run_of : Node → Option Item
run_of (node.OneRepeat item min None false) = Some item
run_of _ = None

-- a pattern that goes by the place alone and begins with a run of an item, whose class stands in the tree
pub record BeginsByRun (tree : TreeParts) (item : Item) : Type 0 where
  pub plain : IsPlain (tree_of tree)
  pub first : first_run (tree_of tree) ≡ Some item
  pub class : All (λ n. n < length tree.classes) (class_in item)

-- a search of bytes, without partial matching, where matches of the empty text count
pub record GoesByRuns (view : View) : Type 0 where
  pub bytes : view.options.now.utf ≡ false
  pub off : view.matching.now.«partial» ≡ Off
  pub any_length : (view.options.now.notempty || view.matching.now.notempty) ≡ false
  pub any_start : (view.options.now.notempty_atstart || view.matching.now.notempty_atstart) ≡ false

-- a search whose pattern begins with a run of an item, whose class stands in the tree
pub record IsFirstRun (tree : TreeParts) (view : View) (item : Item) : Type 0 where
  pub begins : BeginsWithRun (setting_for tree view passed_over) item
  pub class : All (λ n. n < length tree.classes) (class_in item)
