-- What a walk answers where it comes to a failure that is known.
use Rattle.std.specs.Prelude.{◌≡◌, ◌<◌, ◌≤◌, ℕ, ◌-◌, List, All}
use Rattle.ordered_search.specs.Stream.{State, Stream, ◌or_else◌}
use Rattle.ordered_search.specs.Setting.{Setting}
use Rattle.ordered_search.specs.PlaceAnswer.{MatchLimit, FrameLimit, answers, walk}
use Rattle.search_costs.specs.Tasks.{Task, onward, Key, IsDeeper}
use Rattle.search_costs.specs.Costs.{Cost, IsWhole, IsAt, IsKnown, IsExact}

-- With n Steps left, and x left behind it.
pub record IsCounted (g : Setting) (p : ℕ) (ks : List Key) (c : Cost) (left : List Task) (s : State) (n : ℕ)
    (x : Stream) : Type 0 where
  pub fails : s.units ≤ c.most → c.steps ≤ n → walk g n (onward g left s or_else x) ≡ walk g (n - c.steps) x
  pub steps_out : s.units ≤ c.most → n < c.steps → walk g n (onward g left s or_else x) ≡ answers MatchLimit
  pub units_out : IsExact g p ks c → c.most < s.units → s.units ≤ g.matching.frame_limit → c.steps ≤ n
      → walk g n (onward g left s or_else x) ≡ answers FrameLimit

abbrev pub CountLaw : Type 0
CountLaw =
    (g : Setting) (p : ℕ) (ks : List Key) (c : Cost) (left : List Task) (s : State) (n : ℕ) (x : Stream) → IsWhole g
    → IsKnown g p ks c → IsAt g p ks left s → All (IsDeeper n) left → IsCounted g p ks c left s n x
