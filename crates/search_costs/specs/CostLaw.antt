-- Failures with the same keys cost the same.
use Rattle.std.specs.Prelude.{◌≡◌, ◌<◌, ◌≤◌, ℕ, List, All}
use Rattle.ordered_search.specs.Stream.{State, exhausted}
use Rattle.ordered_search.specs.Setting.{Setting}
use Rattle.search_costs.specs.Tasks.{Task, onward, Key, IsDeeper}
use Rattle.search_costs.specs.Costs.{steps, IsTooMuch, Cost, IsWhole, IsAt, IsKnown, IsExact}

-- With no more units held than the most a search fails after the same Steps. With more it passes the frame limit, where
-- the most is exact.
pub record FailsAgain (g : Setting) (p : ℕ) (ks : List Key) (c : Cost) (left : List Task) (s : State) : Type 0 where
  pub fails : s.units ≤ c.most → onward g left s ≡ steps c.steps exhausted
  pub passes : IsExact g p ks c → c.most < s.units → s.units ≤ g.matching.frame_limit
      → IsTooMuch c.steps (onward g left s)

-- The depths, which no answer shows, are to be enough.
abbrev pub CostLaw : Type 0
CostLaw =
    (g : Setting) (p : ℕ) (ks : List Key) (c : Cost) (left : List Task) (s : State) → IsWhole g → IsKnown g p ks c
    → IsAt g p ks left s → All (IsDeeper c.steps) left → FailsAgain g p ks c left s
