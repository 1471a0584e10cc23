-- What the machine needs of lookbehinds (pcre2pattern, "Lookbehind assertions").
use Rattle.std.specs.Prelude.{◌≡◌, ℕ, false, drop, All, Option, None}
use Rattle.pat_tree.specs.Nested as tree
use Rattle.pat_tree.specs.Nested.{Nested, Row}
use Rattle.node_flow.specs.Followers.{first_of}
use Rattle.match_items.specs.Scene.{Scene}
use Rattle.match_items.specs.Items.{places_back}
use Rattle.pat_lengths.specs.Nodes.{all_nodes}
use Rattle.pat_lengths.specs.Lengths.{SomeLengths, branch_fault}

-- the place so many characters before another, if there are so many
abbrev pub place_back : Scene → ℕ → ℕ → Option ℕ
place_back g n p = first_of (drop n (places_back g n p))

-- by the lengths of branches
module _ (lengths : Nested → SomeLengths) where
  -- a branch isn't refused
  abbrev pub IsFixed : Nested → Type 0
  IsFixed t = branch_fault (lengths t) ≡ None

  abbrev pub AreFixed : Row → Type 0
  AreFixed tree.none = Unit {0}
  AreFixed (tree.more t ts) = IsFixed t × AreFixed ts

  -- the branches of a lookbehind have
  abbrev pub HasFixed : Nested → Type 0
  HasFixed (tree.look false positive once ts) = AreFixed ts
  HasFixed _ = Unit {0}

  -- and so have those of each in a tree
  abbrev pub IsMeasured : Nested → Type 0
  IsMeasured t = All HasFixed (all_nodes t)
