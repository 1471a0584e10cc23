-- The single items that a pattern's branches begin with.
use Rattle.std.specs.Prelude.{◌≡◌, ◌<◌, ◌≤◌, ℕ, List, map, length, replicate, All, None, Some}
use Rattle.pat_tree.specs.declared.options.PartialMode.TheVariants.{Off}
use Rattle.pat_tree.specs.Nested.{Nested, Row, seq, group, one, none, more, row, tree_at, trees}
use Rattle.pat_tree.specs.Parts.{TreeParts, tree_of}
use Rattle.match_items.specs.Scene.{Scene}
use Rattle.match_items.specs.declared.view.View.{View}
use Rattle.match_items.specs.Items.{after_item}
use Rattle.ordered_search.specs.Setting.{Setting, lower_of}
use Rattle.ordered_search.specs.PlaceAnswer.{Exhausted, Failed, Matched, answers, place_answer}
use Rattle.match_starts.specs.declared.prefix.Tested.{Tested}
use Rattle.match_starts.specs.declared.prefix.Tested.TheVariants.{Took, Refused, Open}

-- what the single items that a row begins with tell, each tested behind what the items before it took
unfoldable pub items_tested : Scene → Row → ℕ → Tested
items_tested g none p = Took p
items_tested g (more (one item) ts) p = elim (after_item g item p) [ None ↦ Refused | Some q ↦ items_tested g ts q ]
items_tested g (more t ts) p = Open

-- those of a branch
unfoldable pub branch_tested : Scene → Nested → ℕ → Tested
branch_tested g (seq ts) p = items_tested g ts p
branch_tested g t p = items_tested g (more t none) p

-- those of branches, up to the first one that isn't refused
unfoldable pub tested : Scene → Row → ℕ → Tested
tested g none p = Refused
tested g (more t ts) p = elim (branch_tested g t p) [ Took q ↦ Took q | Refused ↦ tested g ts p | Open ↦ Open ]

-- they tell so of the search at a place: a match that captures nothing, or none
abbrev pub IsTold : Tested → Setting → ℕ → Type 0
IsTold (Took q) g p =
    place_answer g p
    ≡ answers (Matched (record { keep = p; to = q; mark = None; caps = replicate g.groups None }))
IsTold Refused g p = place_answer g p ≡ answers (Failed Exhausted)
IsTold Open g p = Unit {0}

-- the trees of these parts
abbrev pub row_of : TreeParts → List ℕ → Row
row_of tree parts = row (map (tree_at (trees tree.nodes)) parts)

-- a pattern's branches, or none
pub record AreBranches (tree : TreeParts) (branches : List ℕ) : Type 0 where
  pub below : All (λ k. k ≤ tree.root) branches
  pub all : 0 < length branches → tree_of tree ≡ group None (row_of tree branches)

-- so many branches pass no limit, and no partial match is looked for
pub record IsFree (view : View) (count : ℕ) : Type 0 where
  pub off : view.matching.now.«partial» ≡ Off
  pub steps : count ≤ lower_of view.options.now.match_limit view.matching.now.match_limit
  pub unit : 0 < view.matching.now.frame_limit
