-- Bounds of a search where a needed text stands nowhere (docs/SPEED.md, "A text that every match
-- needs").
use Rattle.std.specs.Prelude.{◌≡◌, ℕ, Bool, true, List, ◌++◌, Some, None, ◌⊎◌}
use Rattle.pat_tree.specs.declared.nodes.Item.{Item}
use Rattle.pat_tree.specs.Nested.{Nested, group, seq, none, more, row}
use Rattle.pat_bounds.specs.declared.bounds.Bound.{Bound}
use Rattle.pat_bounds.specs.Bounds.{bound, bound_in_turn}
use Rattle.pat_needs.specs.Needs.{SomeNeeds}

-- a pattern that is one sequence of these parts
abbrev pub sequence : List Nested → Nested
sequence ts = group None (more (seq (row ts)) none)

-- what items may take, in UTF or not, what classes hold of, and a text by its sets
module _ (may : Item → ℕ → Bool) (utf : Bool) (has : ℕ → ℕ → Bool) (text : List (List Bool)) where
  -- The bound is that of the pattern. Where that is one sequence it may be that of its first parts,
  -- up to those that take the text: those behind them never run.
  abbrev pub IsBoundWithout : Nested → Bound → Type 0
  IsBoundWithout t b =
      (bound has t ≡ Some b)
      ⊎ ((ts us : List Nested) × ((t ≡ sequence (ts ++ us))
      × (SomeNeeds may utf true text (row ts) × (bound_in_turn has (row ts) ≡ Some b))))
