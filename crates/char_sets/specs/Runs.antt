-- Runs of characters, and those that the ranges of a class take.
use Rattle.std.specs.Prelude.{ℕ, ◌+◌, ◌-◌, Bool, false, ◌&&◌, ◌||◌, ◌==◌, List}
use Rattle.std.specs.Int.{is_in_range}
use Rattle.std.specs.List.{list_any}
use Rattle.std.specs.List.Sorted.{IsNonDecreasingBy}
use Rattle.pat_tree.specs.declared.nodes.Part.{Part}
use Rattle.pat_tree.specs.declared.nodes.Part.TheVariants.{Range, Set}
use Rattle.char_sets.specs.Sets.{range_has}
use Rattle.char_sets.specs.declared.runs.Run.{Run}

-- some run holds c
abbrev pub runs_have : List Run → ℕ → Bool
runs_have runs c = list_any (λ (run : Run). is_in_range run.from run.to c) runs

-- the runs rise, by their beginnings and by their ends
pub record IsRising (runs : List Run) : Type 0 where
  pub from : IsNonDecreasingBy (λ (run : Run). run.from) runs
  pub to : IsNonDecreasingBy (λ (run : Run). run.to) runs

-- a part that is a range takes c
abbrev pub range_part_has : Bool → Bool → ℕ → Part → Bool
range_part_has utf caseless c (Range from to) = range_has utf caseless from to c
range_part_has utf caseless c (Set set reversed ucp) = false

-- c is second in a pair whose first lies in the range
abbrev pub partner_has : List (ℕ × ℕ) → ℕ → ℕ → ℕ → Bool
partner_has pairs from to c = list_any (λ (pair : ℕ × ℕ). is_in_range from to pair.0 && pair.1 == c) pairs

-- c is the other case of one of ASCII's letters in the range
abbrev pub letters_have : ℕ → ℕ → ℕ → Bool
letters_have from to c = (is_in_range 97 122 c && is_in_range from to (c - 32))
    || (is_in_range 65 90 c && is_in_range from to (c + 32))
