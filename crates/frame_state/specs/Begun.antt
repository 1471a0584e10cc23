-- Where the branches of a part begin: those of a lookbehind at earlier places.
use Rattle.std.specs.Prelude.{ℕ, ◌-◌, Bool, true, false, not, ◌==◌, nat_lt, if◌then◌else◌, min, List, [], ◌∷◌, length}
use Rattle.std.specs.Prelude.{Option, Some, None, option_map}
use Rattle.pat_tree.specs.Nested as tree
use Rattle.pat_tree.specs.Nested.{Nested}
use Rattle.match_items.specs.Items.{places_back}
use Rattle.pat_lengths.specs.Lengths.{SomeLengths}
use Rattle.ordered_search.specs.Setting.{branch_lengths}
use Rattle.frame_state.specs.declared.machine.Next.{Next}
use Rattle.frame_state.specs.declared.machine.Next.TheVariants.{Enter, Branch, Try, Back}
use Rattle.frame_state.specs.declared.machine.Spot.{Spot}
use Rattle.frame_state.specs.Behind.{IsFixed, place_back}
use Rattle.frame_state.specs.Ground.{Ground, tree_of}

abbrev pub is_behind : Nested → Bool
is_behind (tree.look ahead positive once ts) = not ahead
is_behind _ = false

-- how a branch of a lookbehind is begun: at a place, or by tries, the first so many characters back
pub data Begun : Type 0 where
  placed : ℕ → Begun
  tried : ℕ → Begun

module _ (c : Ground) where
  -- a part is a branch of a lookbehind that isn't refused
  abbrev pub IsFixedPart : ℕ → Type 0
  IsFixedPart p = IsFixed (branch_lengths c.setting) (tree_of c p)

  -- the first try, where so many characters stand before
  abbrev pub first_try : ℕ → ℕ → Option Begun
  first_try least room = if nat_lt room least then None else Some (tried room)

  abbrev pub begun_within : (same : Bool) → (least most place : ℕ) → Option Begun
  begun_within true least most place = option_map placed (place_back c.setting.scene most place)
  begun_within false least most place = first_try least (length (places_back c.setting.scene most place) - 1)

  abbrev pub begun_by : SomeLengths → ℕ → Option Begun
  begun_by None place = None
  begun_by (Some a) place = elim a.most [
    | None ↦ None
    | Some most ↦ begun_within (a.least == most) a.least most place
  ]

  -- where a branch of a lookbehind begins
  abbrev pub begun_place : ℕ → ℕ → Option Begun
  begun_place p place = begun_by (branch_lengths c.setting (tree_of c p)) place

-- a branch is run from where it begins, if it is of a lookbehind
abbrev pub begun_next : Bool → Option Begun → ℕ → Next
begun_next false to p = Enter p
begun_next true None p = Back
begun_next true (Some (placed place)) p = Enter p
begun_next true (Some (tried n)) p = Try p n

abbrev pub begun_spot : Bool → Option Begun → Spot → Spot
begun_spot false to spot = spot
begun_spot true None spot = spot
begun_spot true (Some (placed place)) spot = record spot { place = place; early = min spot.early place }
begun_spot true (Some (tried n)) spot = spot

module _ (c : Ground) (behind : Bool) where
  -- where the branches of a part begin
  abbrev pub first_begun : ℕ → List ℕ → ℕ → Next
  first_begun q [] place = Back
  first_begun q (p ∷ []) place = begun_next behind (begun_place c p place) p
  first_begun q (p ∷ p' ∷ ps) place = Branch q 0

  abbrev pub first_spot : List ℕ → Spot → Spot
  first_spot [] spot = spot
  first_spot (p ∷ []) spot = begun_spot behind (begun_place c p spot.place) spot
  first_spot (p ∷ p' ∷ ps) spot = spot
