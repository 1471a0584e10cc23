-- What is known of a failure of a search.
use Rattle.std.specs.Prelude.{◌≡◌, ◌<◌, ◌≤◌, ℕ, zero, suc, List}
use Rattle.pat_tree.specs.declared.options.PartialMode.TheVariants.{Off}
use Rattle.match_items.specs.Subjects.{IsText}
use Rattle.ordered_search.specs.Stream.{State, Ending, exhausted, by_halt, too_many_units, step, Stream, ends, ◌▸◌}
use Rattle.ordered_search.specs.Setting.{Setting}
use Rattle.search_costs.specs.Tasks.{Task, onward, Key, keys, IsVisit}

-- so many Steps, without a state, and then an ending
unfoldable pub steps : ℕ → Ending → Stream
steps zero e = ends e
steps (suc n) e = step ▸ steps n e

-- the frame limit is passed after so many Steps at most
pub record IsTooMuch (most : ℕ) (x : Stream) : Type 0 where
  pub count : ℕ
  pub few : count ≤ most
  pub is : x ≡ steps count (by_halt too_many_units)

-- the state with so many units held
abbrev pub holding : ℕ → State → State
holding n s = record s { units = n }

-- what a failure takes: its Steps, and the most units that may be held where it begins
pub record Cost : Type 0 where
  pub steps : ℕ
  pub most : ℕ

-- a search without partial matching
pub record IsWhole (g : Setting) : Type 0 where
  pub off : g.matching.«partial» ≡ Off
  pub text : IsText g.options g.subject

-- A search stands at place p with tasks of these keys left.
pub record IsAt (g : Setting) (p : ℕ) (ks : List Key) (left : List Task) (s : State) : Type 0 where
  pub visit : IsVisit g left s
  pub place : s.place ≡ p
  pub keys : keys s left ≡ ks

-- One that stood there failed at this cost: with the most units held it took the Steps and nothing else, and didn't
-- come to the end of its own.
pub record IsKnown (g : Setting) (p : ℕ) (ks : List Key) (c : Cost) : Type 0 where
  pub left : List Task
  pub state : State
  pub at : IsAt g p ks left state
  pub fails : onward g left (holding c.most state) ≡ steps c.steps exhausted

-- And with one unit more it passes the frame limit.
pub record IsExact (g : Setting) (p : ℕ) (ks : List Key) (c : Cost) : Type 0 where
  pub left : List Task
  pub state : State
  pub at : IsAt g p ks left state
  pub passes : c.most < g.matching.frame_limit → IsTooMuch c.steps (onward g left (holding (suc c.most) state))
