-- A graph of sites: what a search does at each of them, and what it has left to do there.
use Rattle.std.specs.Prelude.{◌≡◌, ℕ, zero, suc, ◌<◌, ◌-◌, Bool, true, false, List, [], ◌∷◌, map, All, Option, Some}
use Rattle.std.specs.Prelude.{None}
use Rattle.std.specs.Prelude.{nat_le}
use Rattle.pat_tree.specs.declared.nodes.Item.{Item}
use Rattle.pat_tree.specs.declared.nodes.AnchorKind.{AnchorKind}
use Rattle.pat_tree.specs.Rules.{class_in}
use Rattle.pat_tree.specs.Nested as tree
use Rattle.pat_tree.specs.Nested.{Nested, Row, none, more}
use Rattle.match_items.specs.Items.{one_less}
use Rattle.ordered_search.specs.Setting.{Setting, match_limit}
use Rattle.search_costs.specs.Tasks.{Key, part_key, closing_key, turning_key}
use Rattle.search_costs.specs.Costs.{IsWhole}
use Rattle.fail_sites.specs.Left.{Left, todo, choosing, a_turn}
use Rattle.fail_sites.specs.declared.op.Op.{Op}
use Rattle.fail_sites.specs.declared.op.Op.TheVariants as op

pub record Graph : Type 0 where
  pub setting : Setting
  -- how many sites there are, and what is done at each
  pub count : ℕ
  pub op : ℕ → Op
  pub left : ℕ → Left
  pub class_count : ℕ

-- the parts of a sequence, and then these
abbrev pub parts_then : Row → List Key → List Key
parts_then none ks = ks
parts_then (more t ts) ks = part_key t ∷ parts_then ts ks

-- A turn that began where the search stands has taken nothing: it is over there, where no further turn is owed or
-- bounded.
abbrev pub over_at_once : ℕ → Option ℕ → Bool
over_at_once low None = nat_le low 1
over_at_once low (Some n) = false

abbrev pub after_body : Nested → ℕ → Option ℕ → Bool → List Key → List Key
after_body body low high lazily ks =
    part_key body ∷ turning_key body low high lazily (over_at_once low high) ∷ ks

-- past a character no turn is over any more
abbrev pub moved_key : Key → Key
moved_key (part_key t) = part_key t
moved_key (closing_key n) = closing_key n
moved_key (turning_key body low high lazily over) = turning_key body low high lazily false

abbrev pub moved : List Key → List Key
moved ks = map moved_key ks

-- Nothing is met between two sites.
pub data Skips : Left → Left → Type 0 where
  same : {l : Left} → Skips l l
  past_empty : {ks : List Key} → Skips (todo (part_key tree.empty ∷ ks)) (todo ks)
  past_keep : {ks : List Key} → Skips (todo (part_key tree.keep_out ∷ ks)) (todo ks)
  in_turn : {ts : Row} {ks : List Key} → Skips (todo (part_key (tree.seq ts) ∷ ks)) (todo (parts_then ts ks))
  one_branch : {t : Nested} {ks : List Key}
      → Skips (todo (part_key (tree.group None (more t none)) ∷ ks)) (todo (part_key t ∷ ks))
  by_branches : {t u : Nested} {ts : Row} {ks : List Key}
      → Skips (todo (part_key (tree.group None (more t (more u ts))) ∷ ks)) (choosing t (more u ts) ks)
  no_turn : {body : Nested} {lazily : Bool} {ks : List Key}
      → Skips (todo (part_key (tree.repeat body 0 (Some 0) lazily) ∷ ks)) (todo ks)
  turn_over : {body : Nested} {low : ℕ} {high : Option ℕ} {lazily : Bool} {ks : List Key}
      → Skips (todo (turning_key body low high lazily true ∷ ks)) (todo ks)
  turn_on : {body : Nested} {low : ℕ} {high : Option ℕ} {lazily : Bool} {ks : List Key}
      → Skips (todo (turning_key body low high lazily false ∷ ks))
      (todo (part_key (tree.repeat body (low - 1) (one_less high) lazily) ∷ ks))

-- One unit more is held.
pub data Holds : Left → Left → Type 0 where
  opens : {n : ℕ} {ts : Row} {ks : List Key}
      → Holds (todo (part_key (tree.group (Some n) ts) ∷ ks)) (todo (part_key
      (tree.group None ts) ∷ closing_key n ∷ ks))
  closes : {n : ℕ} {ks : List Key} → Holds (todo (closing_key n ∷ ks)) (todo ks)

-- Step.
pub data Steps : Left → Left → Type 0 where
  last_branch : {t : Nested} {ks : List Key} → Steps (choosing t none ks) (todo (part_key t ∷ ks))

-- Step, and one unit more is held.
pub data Turns : Left → Left → Type 0 where
  owed : {body : Nested} {low : ℕ} {high : Option ℕ} {lazily : Bool} {ks : List Key}
      → Turns (todo (part_key (tree.repeat body (suc low) high lazily) ∷ ks))
      (todo (after_body body (suc low) high lazily ks))
  begun : {body : Nested} {low : ℕ} {high : Option ℕ} {lazily : Bool} {ks : List Key}
      → Turns (a_turn body low high lazily ks) (todo (after_body body low high lazily ks))

-- Step, and while the second is left, the first with one unit more.
pub data Branches : Left → Left → Left → Type 0 where
  branch : {t u : Nested} {ts : Row} {ks : List Key}
      → Branches (choosing t (more u ts) ks) (todo (part_key t ∷ ks)) (choosing u ts ks)
  turn_or_exit : {body : Nested} {ks : List Key}
      → Branches (todo (part_key (tree.repeat body 0 None false) ∷ ks)) (todo (after_body body 0 None false ks))
      (todo ks)
  bounded : {body : Nested} {n : ℕ} {ks : List Key}
      → Branches (todo (part_key (tree.repeat body 0 (Some (suc n)) false) ∷ ks))
      (todo (after_body body 0 (Some (suc n)) false ks)) (todo ks)

-- While the second is left, the first with one unit more.
pub data Leaves : Left → Left → Left → Type 0 where
  exit_or_turn : {body : Nested} {ks : List Key}
      → Leaves (todo (part_key (tree.repeat body 0 None true) ∷ ks)) (todo ks) (a_turn body 0 None true ks)
  bounded_lazily : {body : Nested} {n : ℕ} {ks : List Key}
      → Leaves (todo (part_key (tree.repeat body 0 (Some (suc n)) true) ∷ ks)) (todo ks) (a_turn body 0 (Some
      (suc n)) true ks)

-- A character is taken.
pub data Takes (item : Item) : Left → Left → Type 0 where
  taken : {ks : List Key} → Takes item (todo (part_key (tree.one item) ∷ ks)) (todo (moved ks))

pub data Tests (kind : AnchorKind) : Left → Left → Type 0 where
  tested : {ks : List Key} → Tests kind (todo (part_key (tree.anchor kind) ∷ ks)) (todo ks)

-- A greedy repeat of one item: where no character was taken, and past one.
pub data Repeats (item : Item) (low : ℕ) (high : Option ℕ) : Left → Left → Left → Type 0 where
  repeats : {ks : List Key}
      → Repeats item low high (todo (part_key (tree.one_repeat item low high false) ∷ ks)) (todo ks) (todo (moved ks))

pub data AsksOf : Left → Type 0 where
  of_tasks : {ks : List Key} → AsksOf (todo ks)

module _ (c : Graph) where
  -- the sites that follow are sites of the graph, with that left to do
  abbrev pub OneOn : (Left → Left → Type 0) → ℕ → ℕ → Type 0
  OneOn P v w = (w < c.count) × P (c.left v) (c.left w)

  abbrev pub TwoOn : (Left → Left → Left → Type 0) → ℕ → ℕ → ℕ → Type 0
  TwoOn P v w x = (w < c.count) × (x < c.count) × P (c.left v) (c.left w) (c.left x)

  abbrev pub Fits : ℕ → Op → Type 0
  Fits v op.End = c.left v ≡ todo []
  Fits v (op.Skip w) = OneOn Skips v w
  Fits v (op.Ask w) = OneOn Skips v w × AsksOf (c.left v)
  Fits v (op.Take item w) = OneOn (Takes item) v w × All (λ n. n < c.class_count) (class_in item)
  Fits v (op.Test kind w) = OneOn (Tests kind) v w
  Fits v (op.Hold w) = OneOn Holds v w
  Fits v (op.Step w) = OneOn Steps v w
  Fits v (op.Turn w) = OneOn Turns v w
  Fits v (op.Branch w x) = TwoOn Branches v w x
  Fits v (op.Leave w x) = TwoOn Leaves v w x
  Fits v (op.Many item low high w x) =
      TwoOn (Repeats item low high) v w x × All (λ n. n < c.class_count) (class_in item)
  Fits v op.Other = Unit {0}

  pub record IsGraph : Type 0 where
    pub whole : IsWhole c.setting
    pub fits : (v : ℕ) → v < c.count → Fits v (c.op v)
