-- What follows on the path of a machine where tasks are left.
use Rattle.std.specs.Prelude.{◌≡◌, List, [], ◌∷◌}
use Rattle.ordered_search.specs.Stream.{State, How, reached}
use Rattle.ordered_search.specs.Setting.{Setting}
use Rattle.ordered_search.specs.Moves.{Moves, Follow, Handler, Path}
use Rattle.ordered_search.specs.Paths.{close, turned, paths}
use Rattle.search_paths.specs.Pauses.{strip}
use Rattle.search_costs.specs.Tasks.{Task, part, closing, turning}

-- it doesn't see the pauses of what is left behind it
abbrev pub IsBlind : Follow → Type 0
IsBlind k = (how : How) (s : State) (f : Moves) → strip (k how s f) ≡ strip (k how s (strip f))

module _ (g : Setting) where
  unfoldable pub task_path : Task → Path
  task_path (part d t) s k f h = paths g d t s k f h
  task_path (closing n from) s k f h = close g n from reached s k f
  task_path (turning d body low high lazily began) s k f h =
      turned (paths g d) body low high lazily began k h reached s f

-- The tasks are done, each before what follows it, and then, at the end of its own, something follows of which this
-- holds.
pub data Leads (g : Setting) (end : Follow → Type 0) : List Task → Follow → Type 0 where
  to_the_end : (k : Follow) → end k → Leads g end [] k
  by_task : {a : Task} {left : List Task} (k next : Follow) (h : Handler) → IsBlind next
      → ((s : State) (f : Moves) → k reached s f ≡ task_path g a s next f h) → Leads g end left next
      → Leads g end (a ∷ left) k

abbrev pub IsAny : Follow → Type 0
IsAny k = Unit {0}

-- what is left behind it is given up
abbrev pub GivesUp : Follow → Type 0
GivesUp k = (how : How) (s : State) (f f' : Moves) → strip (k how s f) ≡ strip (k how s f')
