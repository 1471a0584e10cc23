-- What a search has left to do, up to the end of its own: that of the innermost lookaround or atomic group around it,
-- or of the pattern.
use Rattle.std.specs.Prelude.{◌<◌, ◌≤◌, ℕ, ◌-◌, Bool, true, false, List, All, map, Option}
use Rattle.pat_tree.specs.Nested as tree
use Rattle.pat_tree.specs.Nested.{Nested}
use Rattle.match_items.specs.Items.{one_less}
use Rattle.match_items.specs.Subjects.{IsTextPlace}
use Rattle.ordered_search.specs.Stream.{State, reached, captured, Search, gives}
use Rattle.ordered_search.specs.Setting.{Setting, hold}
use Rattle.ordered_search.specs.Parts.{in_order, is_over}
use Rattle.ordered_search.specs.Run.{run}
use Rattle.ordered_search.specs.Plain.{IsPlain}

-- one thing that is left to do
pub data Task : Type 0 where
  -- a part of the pattern, with a depth
  part : ℕ → Nested → Task
  -- the end of group n, which began at a place
  closing : ℕ → ℕ → Task
  -- the end of a turn, which began at a state: with a depth, of a repeat of this body, with a minimum, a maximum if
  -- there is one, and whether it is lazy
  turning : ℕ → Nested → ℕ → Option ℕ → Bool → State → Task

module _ (g : Setting) where
  unfoldable pub task_search : Task → Search
  task_search (part d t) s = run g d t s
  task_search (closing n from) s = hold g reached (captured n from s)
  task_search (turning d body low high lazily began) s =
      elim (is_over low high began s) [
        | true ↦ gives reached s
        | false ↦ run g d (tree.repeat body (low - 1) (one_less high) lazily) s
      ]

  -- the search up to the end of its own
  abbrev pub onward : List Task → Search
  onward left = in_order (map task_search left)

-- What of a task decides what its failure costs: where a group began is none of it, and of the place where a turn began
-- only whether the turn would be over here, where it has taken nothing.
pub data Key : Type 0 where
  part_key : Nested → Key
  closing_key : ℕ → Key
  turning_key : Nested → ℕ → Option ℕ → Bool → Bool → Key

abbrev pub key : State → Task → Key
key s (part d t) = part_key t
key s (closing n from) = closing_key n
key s (turning d body low high lazily began) = turning_key body low high lazily (is_over low high began s)

abbrev pub keys : State → List Task → List Key
keys s left = map (key s) left

-- it goes by the place alone
abbrev pub IsPlainTask : Task → Type 0
IsPlainTask (part d t) = IsPlain t
IsPlainTask (closing n from) = Unit {0}
IsPlainTask (turning d body low high lazily began) = IsPlain body

-- its group or its turn began at a place or before it
abbrev pub IsBegun : ℕ → Task → Type 0
IsBegun p (part d t) = Unit {0}
IsBegun p (closing n from) = from ≤ p
IsBegun p (turning d body low high lazily began) = began.place ≤ p

-- its depth isn't used up by so many Steps
abbrev pub IsDeeper : ℕ → Task → Type 0
IsDeeper n (part d t) = n < d
IsDeeper n (closing n' from) = Unit {0}
IsDeeper n (turning d body low high lazily began) = n < d

-- A search may stand at the state with these tasks left.
pub record IsVisit (g : Setting) (left : List Task) (s : State) : Type 0 where
  pub here : IsTextPlace g.options g.subject s.place
  pub plain : All IsPlainTask left
  pub begun : All (IsBegun s.place) left
