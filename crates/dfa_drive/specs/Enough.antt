-- How many places the definition of a search for all ends is given.
use Rattle.std.specs.Prelude.{◌≡◌, ◌≤◌, ℕ, ◌+◌, ◌-◌, Bool, length, Some}
use Rattle.ordered_search.specs.Setting.{Setting}
use Rattle.ordered_search.specs.Places.{within}
use Rattle.dfa_ends.specs.DfaAnswer.{from_place, dfa_answer}

-- With any more of them it answers the same.
abbrev pub EnoughPlaces : Type 0
EnoughPlaces =
    (g : Setting) → g.start ≤ length g.subject → (shortest : Bool) (more : ℕ) →
    from_place g shortest ((length g.subject + 1 - g.start) + more) (within g (Some g.start))
    ≡ dfa_answer g shortest
