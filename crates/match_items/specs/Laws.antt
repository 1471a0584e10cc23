-- Laws on scenes.
use Rattle.std.specs.Prelude.{◌≡◌, ℕ, ◌<◌, Bool, List, Some}
use Rattle.pat_tree.specs.Parts.{TreeParts}
use Rattle.char_sets.specs.Sets.{class_has}
use Rattle.char_sets.specs.Table.{CharSet, IsTableOf}
use Rattle.match_items.specs.declared.view.View.{View}
use Rattle.match_items.specs.Scene.{Scene}
use Rattle.match_items.specs.Subjects.{IsText, IsTextPlace}
use Rattle.match_items.specs.Items.{after_item, after_break, after_ref, place_before}
use Rattle.match_items.specs.Views.{text_scene}
use Rattle.pat_tree.specs.declared.nodes.Item.{Item}

-- seen through a tree's table, a class holds of what the tree's class takes
abbrev pub TablesShowClasses : Type 0
TablesShowClasses = (tree : TreeParts) (table : List CharSet) (view : View) → IsTableOf tree table
    → text_scene view table ≡ record (text_scene view table) { class_has = class_has tree }

-- In a subject that can be looked at, what takes characters goes from place to place: an item
-- forward by one character, which the place before its end is the begin of; `\R` and references by
-- whole characters.
module _ (g : Scene) where
  abbrev pub Stands : ℕ → Type 0
  Stands p = IsTextPlace g.options g.subject p

  pub record StandsAlong : Type 0 where
    pub forward : (item : Item) (p q : ℕ) → Stands p → after_item g item p ≡ Some q →
        (p < q) × Stands q × (place_before g q ≡ p)
    pub backward : (p : ℕ) → Stands p → 0 < p →
        (place_before g p < p) × Stands (place_before g p)
    pub breaks : (p q : ℕ) → Stands p → after_break g p ≡ Some q → Stands q
    pub refers : (from to p q : ℕ) (caseless : Bool) → Stands p →
        after_ref g from to caseless p ≡ Some q → Stands q

abbrev pub PlacesStand : Type 0
PlacesStand = (g : Scene) → IsText g.options g.subject → StandsAlong g
