-- What a machine answers where it comes to a failure that is known.
use Rattle.std.specs.Prelude.{◌≡◌, ◌<◌, ◌≤◌, ℕ, ◌-◌, List, All}
use Rattle.ordered_search.specs.Stream.{State, reached}
use Rattle.ordered_search.specs.Setting.{Setting}
use Rattle.ordered_search.specs.PlaceAnswer.{MatchLimit, FrameLimit, answers}
use Rattle.ordered_search.specs.Moves.{Moves, Follow, tread}
use Rattle.search_costs.specs.Tasks.{Task, Key, IsDeeper}
use Rattle.search_costs.specs.Costs.{Cost, IsWhole, IsAt, IsKnown, IsExact}
use Rattle.search_costs.specs.Led.{Leads, IsAny}

-- With n Steps left, where k follows and f is left where it fails: the Steps are counted and f follows, or the limit
-- that is passed is the answer.
pub record IsRecalled (g : Setting) (p : ℕ) (ks : List Key) (c : Cost) (s : State) (n : ℕ) (k : Follow)
    (f : Moves) : Type 0 where
  pub fails : s.units ≤ c.most → c.steps ≤ n → tread g n (k reached s f) ≡ tread g (n - c.steps) f
  pub steps_out : s.units ≤ c.most → n < c.steps → tread g n (k reached s f) ≡ answers MatchLimit
  pub units_out : IsExact g p ks c → c.most < s.units → s.units ≤ g.matching.frame_limit → c.steps ≤ n
      → tread g n (k reached s f) ≡ answers FrameLimit

abbrev pub RecallLaw : Type 0
RecallLaw =
    (g : Setting) (p : ℕ) (ks : List Key) (c : Cost) (left : List Task) (s : State) (n : ℕ) (k : Follow) (f : Moves)
    → IsWhole g → IsKnown g p ks c → IsAt g p ks left s → All (IsDeeper n) left → Leads g IsAny left k
    → IsRecalled g p ks c s n k f
