-- A pattern that is one greedy repeat of an item.
use Rattle.std.specs.Prelude.{◌≡◌, ◌<◌, false, All, length, None}
use Rattle.pat_tree.specs.declared.options.PartialMode.TheVariants.{Off}
use Rattle.pat_tree.specs.Nested.{group, one_repeat, none, more}
use Rattle.pat_tree.specs.Parts.{TreeParts, tree_of}
use Rattle.pat_tree.specs.Rules.{class_in}
use Rattle.match_items.specs.declared.view.View.{View}
use Rattle.ordered_search.specs.Setting.{lower_of}
use Rattle.match_starts.specs.declared.repeats.FirstRepeat.{FirstRepeat}

-- the pattern is this repeat, and nothing else
pub record IsWhole (tree : TreeParts) (only : FirstRepeat) : Type 0 where
  pub is : tree_of tree ≡ group None (more (one_repeat only.item only.min only.max false) none)
  pub class : All (λ n. n < length tree.classes) (class_in only.item)

-- a search of it, without partial matching, whose limits admit a Step and a unit
pub record IsWholeSearch (tree : TreeParts) (view : View) (only : FirstRepeat) : Type 0 where
  pub pattern : IsWhole tree only
  pub open pattern use *
  pub off : view.matching.now.«partial» ≡ Off
  pub step : 0 < lower_of view.options.now.match_limit view.matching.now.match_limit
  pub unit : 0 < view.matching.now.frame_limit
