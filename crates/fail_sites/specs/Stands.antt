-- A search that stands at a site: its stream, by the number of the units that it holds.
use Rattle.std.specs.Prelude.{◌≡◌, ℕ, suc, ◌<◌, ◌≤◌, Bool, false, ◌&&◌, ◌==◌, List, [], ◌∷◌, Option, Some, None, nat_le}
use Rattle.pat_tree.specs.Nested.{Nested, Row}
use Rattle.match_items.specs.Subjects.{IsTextPlace}
use Rattle.ordered_search.specs.Stream.{State, exhausted, Stream, Search, and_then}
use Rattle.ordered_search.specs.Setting.{Setting}
use Rattle.ordered_search.specs.Parts.{choices, turn}
use Rattle.ordered_search.specs.Run.{run, level, levels}
use Rattle.ordered_search.specs.Plain.{IsPlain, ArePlain}
use Rattle.search_costs.specs.Tasks.{Task, part, closing, turning, onward, Key, part_key, closing_key, turning_key}
use Rattle.search_costs.specs.Costs.{steps, Cost}
use Rattle.fail_sites.specs.Left.{Left, todo, choosing, a_turn}

-- a turn that began at q is over at p
abbrev pub over_at : ℕ → Option ℕ → ℕ → ℕ → Bool
over_at low None q p = nat_le low 1 && (q == p)
over_at low (Some n) q p = false

-- A task of this key, at place p with n Steps left.
pub data IsOfKey (n p : ℕ) : Task → Key → Type 0 where
  of_part : {d : ℕ} {t : Nested} → n < d → IsPlain t → IsOfKey n p (part d t) (part_key t)
  of_closing : {k from : ℕ} → from ≤ p → IsOfKey n p (closing k from) (closing_key k)
  of_turning : {d low : ℕ} {body : Nested} {high : Option ℕ} {lazily over : Bool} {began : State} → n < d
      → IsPlain body → began.place ≤ p → over_at low high began.place p ≡ over
      → IsOfKey n p (turning d body low high lazily began) (turning_key body low high lazily over)

pub data AreOfKeys (n p : ℕ) : List Task → List Key → Type 0 where
  no_task : AreOfKeys n p [] []
  and_task : {a : Task} {left : List Task} {k : Key} {ks : List Key} → IsOfKey n p a k → AreOfKeys n p left ks
      → AreOfKeys n p (a ∷ left) (k ∷ ks)

module _ (g : Setting) where
  abbrev pub choosing_search : ℕ → Nested → Row → List Task → Search
  choosing_search d t ts left s =
      and_then (choices g (level g (run g d) t ∷ levels g (run g d) ts) s) (onward g left)

  abbrev pub turn_search : ℕ → Nested → ℕ → Option ℕ → Bool → List Task → Search
  turn_search d body low high lazily left s = and_then (turn g (run g d) body low high lazily s) (onward g left)

  -- the searches that may have this left to do, at place p with n Steps left
  pub data IsSearchOf (n p : ℕ) : Left → Search → Type 0 where
    of_todo : {left : List Task} {ks : List Key} → AreOfKeys n p left ks → IsSearchOf n p (todo ks) (onward g left)
    of_choosing : {d : ℕ} {t : Nested} {ts : Row} {left : List Task} {ks : List Key} → n ≤ d → IsPlain t → ArePlain ts
        → AreOfKeys n p left ks → IsSearchOf n p (choosing t ts ks) (choosing_search d t ts left)
    of_turn : {d : ℕ} {body : Nested} {low : ℕ} {high : Option ℕ} {lazily : Bool} {left : List Task} {ks : List Key}
        → n ≤ d → IsPlain body → AreOfKeys n p left ks
        → IsSearchOf n p (a_turn body low high lazily ks) (turn_search d body low high lazily left)

-- at place p with u units held
abbrev pub standing : ℕ → ℕ → State → State
standing p u s = record s { place = p; units = u }

-- What a search has left to do is this, at place p with n Steps left: with u units held its stream is `x u`.
pub record Stands (g : Setting) (l : Left) (n p : ℕ) (x : ℕ → Stream) : Type 0 where
  pub here : IsTextPlace g.options g.subject p
  pub search : Search
  pub state : State
  pub of : IsSearchOf g n p l search
  pub is : (u : ℕ) → x u ≡ search (standing p u state)

-- A search that stood there failed at this cost: with the most units held it took the Steps and nothing else.
pub record IsFailure (g : Setting) (l : Left) (p : ℕ) (c : Cost) : Type 0 where
  pub stream : ℕ → Stream
  pub left : ℕ
  pub stands : Stands g l left p stream
  pub fails : stream c.most ≡ steps c.steps exhausted
