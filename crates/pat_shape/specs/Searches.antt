-- Searches for the pattern of a tree.
use Rattle.std.specs.Prelude.{◌≡◌, ◌≢◌, ℕ, ◌<◌, Bool, IsTrue, length, slice_index}
use Rattle.pat_tree.specs.Parts.{TreeParts}
use Rattle.char_sets.specs.Sets.{class_has}
use Rattle.match_items.specs.Subjects.{IsText}
use Rattle.match_items.specs.Views.{fold_in}
use Rattle.ordered_search.specs.Setting.{Setting}

-- a search with the options and the classes of the tree; in a line there is no LF
pub record IsSearchOf (tree : TreeParts) (lined : Bool) (g : Setting) : Type 0 where
  pub options : g.options ≡ tree.options
  pub text : IsText g.options g.subject
  pub small : (k : ℕ) → k < length g.subject → slice_index g.subject k < 256
  pub no_lf : IsTrue lined → (k : ℕ) → k < length g.subject → slice_index g.subject k ≢ 10
  pub classes : (n c : ℕ) → g.class_has n c ≡ class_has tree n c
  pub folds : g.fold ≡ fold_in g.options.utf
