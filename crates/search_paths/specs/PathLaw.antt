-- The paths that a machine goes through are the search.
use Rattle.std.specs.Prelude.{◌≡◌, ℕ, ◌+◌}
use Rattle.ordered_search.specs.Stream.{first_state}
use Rattle.ordered_search.specs.Setting.{Setting, match_limit}
use Rattle.ordered_search.specs.PlaceAnswer.{place_answer}
use Rattle.ordered_search.specs.Moves.{exhaust, at_end, at_verbs, tread}
use Rattle.ordered_search.specs.Paths.{paths}

-- what is met on the path of the whole pattern, by calls too, answers what the search answers there
abbrev pub PathLaw : Type 0
PathLaw =
    (g : Setting) (p : ℕ)
    → tread g (match_limit g) (paths g (match_limit g + 1) g.whole (first_state g.groups p) at_end exhaust at_verbs)
    ≡ place_answer g p
