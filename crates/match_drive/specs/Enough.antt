-- How many places the definition of a search is given.
use Rattle.std.specs.Prelude.{◌≡◌, ◌≤◌, ℕ, ◌+◌, ◌-◌, length, Some}
use Rattle.ordered_search.specs.Setting.{Setting}
use Rattle.ordered_search.specs.Places.{within}
use Rattle.ordered_search.specs.MatchAnswer.{from_place, match_answer}

-- With any more of them it finds the same.
abbrev pub EnoughPlaces : Type 0
EnoughPlaces =
    (g : Setting) → g.start ≤ length g.subject → (more : ℕ) →
    from_place g ((length g.subject + 1 - g.start) + more) (within g (Some g.start)) ≡ match_answer g
