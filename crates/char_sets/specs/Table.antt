-- What a table of classes keeps.
use Rattle.std.specs.Prelude.{◌≡◌, ℕ, Bool, false, not, nat_lt, ◌||◌, if◌then◌else◌, List, [], length, slice_index_or}
use Rattle.std.specs.List.{list_any}
use Rattle.byte_lanes.specs.Sets.{has_byte}
use Rattle.pat_tree.specs.Parts.{TreeParts}
use Rattle.char_sets.specs.Named.{set_in}
use Rattle.char_sets.specs.Runs.{runs_have}
use Rattle.char_sets.specs.Sets.{class_has}
use Rattle.char_sets.specs.declared.named.NamedSet.{NamedSet}
use Rattle.char_sets.specs.declared.runs.Run.{Run}

-- the characters of a class: a flag for each byte, and for the rest the runs and the sets that it takes, or negated
-- leaves out
pub record CharSet : Type 0 where
  pub bytes : List Bool
  pub runs : List Run
  pub sets : List NamedSet
  pub negated : Bool

-- some run or some set has c
abbrev pub inside : List Run → List NamedSet → ℕ → Bool
inside runs sets c = runs_have runs c || list_any (λ (set : NamedSet). set_in set c) sets

abbrev pub turned_if : Bool → Bool → Bool
turned_if turned b = if turned then not b else b

abbrev pub char_in : CharSet → ℕ → Bool
char_in set c = if nat_lt c 256 then has_byte set.bytes c else turned_if set.negated (inside set.runs set.sets c)

abbrev pub no_chars : CharSet
no_chars = record { bytes = []; runs = []; sets = []; negated = false }

-- whether the class of this number takes c, by the table
unfoldable pub table_has : List CharSet → ℕ → ℕ → Bool
table_has table class c = char_in (slice_index_or table class no_chars) c

-- a table of the tree's classes: each takes what its class takes
pub record IsTableOf (tree : TreeParts) (table : List CharSet) : Type 0 where
  pub count : length table ≡ length tree.classes
  pub answers : (class c : ℕ) → table_has table class c ≡ class_has tree class c
