-- Texts at a distance from where a match begins (docs/SPEED.md, "A text that every match needs").
use Rattle.std.specs.Prelude.{◌≡◌, ℕ, ◌+◌, Bool, false, List, Some, None, ◌⊎◌}
use Rattle.pat_tree.specs.declared.nodes.Item.{Item}
use Rattle.pat_tree.specs.Nested.{Nested, Row, one, seq, group, one_repeat, anchor, none, more}
use Rattle.pat_needs.specs.Needs.{IsShort, Needs, SomeNeeds}

-- what items may take, in UTF or not
module _ (may : Item → ℕ → Bool) (utf : Bool) where
  -- Each match of the part takes so many bytes: an item of one byte does, one that is repeated as
  -- often each time, and a simple assertion, which takes none.
  abbrev pub IsLong : ℕ → Nested → Type 0
  IsLong n (one item) = (n ≡ 1) × IsShort may utf item
  IsLong n (one_repeat item low (Some high) lazily) = (n ≡ low) × ((low ≡ high) × IsShort may utf item)
  IsLong n (anchor kind) = n ≡ 0
  IsLong n _ = ⊥

  -- a text by its sets
  module _ (text : List (List Bool)) where
    -- Each match of the sequence takes the text so many bytes behind its beginning: it begins with
    -- it, or does so behind its first part, by as many bytes less as that takes.
    abbrev pub NeedsFrom : ℕ → Row → Type 0
    NeedsFrom d none = ⊥
    NeedsFrom d (more t ts) =
        ((d ≡ 0) × SomeNeeds may utf false text (more t ts))
        ⊎ ((n k : ℕ) × ((d ≡ n + k) × (IsLong n t × NeedsFrom k ts)))

    -- so does each match of a pattern: it begins with the text, or is a sequence alone
    abbrev pub NeedsAt : ℕ → Nested → Type 0
    NeedsAt d t =
        ((d ≡ 0) × Needs may utf false text t)
        ⊎ ((ts : Row) × ((t ≡ group None (more (seq ts) none)) × NeedsFrom d ts))
