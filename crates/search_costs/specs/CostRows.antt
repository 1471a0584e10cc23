-- Worked rows: what failures cost.
use Rattle.std.specs.Prelude.{◌≡◌, ℕ, true, false, List, [], ◌∷◌, codes, None}
use Rattle.pat_tree.specs.declared.nodes.Item.TheVariants.{Char}
use Rattle.pat_tree.specs.Nested.{Nested, one, repeat, group, none}
use Rattle.ordered_search.specs.Stream.{first_state, exhausted, by_halt, too_many_units}
use Rattle.ordered_search.specs.Setting.{Setting}
use Rattle.ordered_search.specs.Written.{◌&◌, text, search, units}
use Rattle.search_costs.specs.Tasks.{Task, part, turning, onward, keys, part_key, turning_key}
use Rattle.search_costs.specs.Costs.{steps, holding}

-- `a` or `b`
abbrev pub either : Nested
either = group None (text "a" & text "b" & none)

-- a search for `(?:a|b)*c` on `ab`, with a frame limit of 5
abbrev pub of_either : Setting
of_either = units 5 (search 0 (repeat either 0 None false & one (Char 99 false) & none) (codes "ab"))

-- before a turn of it
abbrev pub before_turn : List Task
before_turn = part 9 (repeat either 0 None false) ∷ part 9 (one (Char 99 false)) ∷ []

-- a search for `(?:a)*b` on `aa`, at the end of a turn that began at a place
abbrev pub of_turns : Setting
of_turns = search 0 (repeat (text "a") 0 None false & one (Char 98 false) & none) (codes "aa")

abbrev pub after_turn_from : ℕ → List Task
after_turn_from p = turning 9 (text "a") 0 None false (first_state 0 p) ∷ part 9 (one (Char 98 false)) ∷ []

pub record CostRows : Type 0 where
  -- From place 1 the failure takes 6 Steps and 3 units: with 2 held there is room for them, and with 3 there isn't.
  pub fails : onward of_either before_turn (holding 2 (first_state 0 1)) ≡ steps 6 exhausted
  pub passes : onward of_either before_turn (holding 3 (first_state 0 1)) ≡ steps 5 (by_halt too_many_units)
  -- A turn that has taken nothing is over, and one that began before goes on: their keys differ, and what they cost.
  pub over : onward of_turns (after_turn_from 1) (first_state 0 1) ≡ steps 0 exhausted
  pub goes_on : onward of_turns (after_turn_from 0) (first_state 0 1) ≡ steps 2 exhausted
  pub over_key : keys (first_state 0 1) (after_turn_from 1)
      ≡ turning_key (text "a") 0 None false true ∷ part_key (one (Char 98 false)) ∷ []
  pub goes_on_key : keys (first_state 0 1) (after_turn_from 0)
      ≡ turning_key (text "a") 0 None false false ∷ part_key (one (Char 98 false)) ∷ []
