-- What a machine learns that has gone through the tasks that were left.
use Rattle.std.specs.Prelude.{◌≡◌, ◌≤◌, ℕ, ◌-◌, List}
use Rattle.ordered_search.specs.Stream.{State, reached}
use Rattle.ordered_search.specs.Setting.{Setting}
use Rattle.ordered_search.specs.Moves.{Moves, Follow, tread}
use Rattle.search_costs.specs.Tasks.{Task, keys, IsVisit}
use Rattle.search_costs.specs.Costs.{IsWhole, IsKnown}
use Rattle.search_costs.specs.Led.{Leads, GivesUp}

-- The answer with n Steps left is that of what was left behind the tasks with m, whatever was left there; where they
-- come to the end of its own, it is given up.
pub record IsSeen (g : Setting) (left : List Task) (s : State) (k : Follow) (n m : ℕ) : Type 0 where
  pub visit : IsVisit g left s
  pub led : Leads g GivesUp left k
  pub fewer : m ≤ n
  pub back : (f : Moves) → (tread g n (k reached s f)).answer ≡ (tread g m f).answer

-- Then the tasks failed, after the Steps between.
abbrev pub SeenLaw : Type 0
SeenLaw =
    (g : Setting) (left : List Task) (s : State) (k : Follow) (n m : ℕ) → IsWhole g → IsSeen g left s k n m
    → IsKnown g s.place (keys s left) (record { steps = n - m; most = s.units })
