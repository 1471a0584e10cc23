-- Possessive repeats of one item.
use Rattle.std.specs.Prelude.{◌≡◌, ℕ, ◌<◌, Bool, not, List, All, Option, Some, None, map, length, if◌then◌else◌, nat_lt}
use Rattle.pat_tree.specs.Nested.{Nested, row, tree_at}
use Rattle.pat_tree.specs.Rules.{class_in, AtMost}
use Rattle.match_items.specs.Items.{is_none_left, longest_run}
use Rattle.match_items.specs.Views.{end_of}
use Rattle.ordered_search.specs.Paths.{Many, many_in, only_many}
use Rattle.frame_parts.specs.declared.possessive.ItemRepeat.{ItemRepeat}
use Rattle.frame_parts.specs.declared.possessive.FirstPlace.{FirstPlace}
use Rattle.frame_state.specs.Ground.{Ground}
use Rattle.frame_state.specs.Reach.{many_reaches}
use Rattle.frame_state.specs.Machine.{less}

abbrev pub many_of : ItemRepeat → Many
many_of r = record { item = r.item; low = r.min; high = r.max; lazily = r.«lazy» }

-- what the search asks of a repeat
pub record IsMeet (c : Ground) (r : ItemRepeat) : Type 0 where
  pub class : All (λ n. n < c.class_count) (class_in r.item)
  pub ordered : AtMost r.min r.max

-- the tree is this repeat
pub record IsRepeatOf (c : Ground) (t : Nested) (r : ItemRepeat) : Type 0 where
  pub is : many_in t ≡ Some (many_of r)
  pub meet : IsMeet c r

-- this repeat is the only branch
pub record IsOnly (c : Ground) (branches : List ℕ) (r : ItemRepeat) : Type 0 where
  pub is : only_many (row (map (tree_at c.trees) branches)) ≡ Some (many_of r)
  pub meet : IsMeet c r

-- the place that a repeat hands on first, if it takes enough there
abbrev pub first_place : Ground → ItemRepeat → ℕ → Option FirstPlace
first_place c r place =
    let least : ℕ = end_of place (longest_run c.setting.scene r.item (Some r.min) place) in
    let most : ℕ = end_of least (longest_run c.setting.scene r.item (less r.min r.max) least) in
    if nat_lt (length (longest_run c.setting.scene r.item (Some r.min) place)) r.min then None
    else if r.«lazy»
    then Some (record { to = least; further = not (is_none_left (less r.min r.max)) })
    else Some (record { to = most; further = nat_lt least most })

-- a test on the way there reaches the subject's end
abbrev pub repeat_reaches : Ground → ItemRepeat → ℕ → Bool
repeat_reaches c r place = many_reaches c r.item r.min r.max r.«lazy» place

-- the units of its group's begin, of the run's further places and of the group's end
abbrev pub units_of : Bool → ℕ
units_of further = if further then 3 else 2
