-- What a replacement takes from a match (pcre2api, "Creating a new string with substitutions").
use Rattle.std.specs.Prelude.{ℕ, List, [], ◌∷◌, Option, Some, None, slice_get, bytes_eq, if◌then◌else◌}

-- The texts of the groups by number from 0, of which some are unset; names with the numbers of
-- groups; the last name on the match's path.
pub record Matched : Type 0 where
  pub texts : List (Option (List ℕ))
  pub names : List (List ℕ × ℕ)
  pub mark : List ℕ

-- what there is of a group
pub data Found : Type 0 where
  text : List ℕ → Found
  unset : Found
  unknown : Found

-- a group by its number
abbrev pub numbered : Matched → ℕ → Found
numbered m n = elim (slice_get m.texts n) [
  | None ↦ unknown
  | Some None ↦ unset
  | Some (Some bytes) ↦ text bytes
]

-- the numbers that a name has, in order
abbrev pub numbers_of : List ℕ → List (List ℕ × ℕ) → List ℕ
numbers_of name [] = []
numbers_of name (pair ∷ pairs) = if bytes_eq pair.0 name then pair.1 ∷ numbers_of name pairs else numbers_of name pairs

-- the first group of these that is set
abbrev pub first_set : Matched → List ℕ → Found
first_set m [] = unset
first_set m (n ∷ ns) = elim (numbered m n) [
  | text bytes ↦ text bytes
  | unset ↦ first_set m ns
  | unknown ↦ first_set m ns
]

abbrev pub first_of : Matched → List ℕ → Found
first_of m [] = unknown
first_of m (n ∷ ns) = first_set m (n ∷ ns)

-- a group by its name
abbrev pub named : Matched → List ℕ → Found
named m name = first_of m (numbers_of name m.names)
