-- What a search has left to do at a site, by keys.
use Rattle.std.specs.Prelude.{ℕ, Bool, List, Option}
use Rattle.pat_tree.specs.Nested.{Nested, Row}
use Rattle.search_costs.specs.Tasks.{Key}

pub data Left : Type 0 where
  -- the tasks of these keys
  todo : List Key → Left
  -- this branch of a group, which begins with Step, then those after it, and behind each the tasks
  choosing : Nested → Row → List Key → Left
  -- a turn of the repeat of this body, and behind it the tasks
  a_turn : Nested → ℕ → Option ℕ → Bool → List Key → Left
