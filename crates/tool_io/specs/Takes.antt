-- How a run takes its inputs: targets, and how files and standard input stood → what the targets stand for, and how
-- they stand then.
use Rattle.std.specs.Prelude.{◌≡◌, ℕ, Bool, true, false, List, Option}
use Rattle.pcre_io.specs.Told.{Told}
use Rattle.pcre_io.specs.Files.{Contents, Filed}
use Rattle.line_feed.specs.Rows.{Input}
use Rattle.line_feed.specs.Hears.{Hears}
use Rattle.tool_io.specs.declared.target.Target.{Target}
use Rattle.tool_io.specs.Asked.{Asked, StandFor, nothing, standard_after_all}

-- what a run's inputs tell: its files with their faults, what standard input has left, and whether it was used
pub record Inputs : Type 0 where
  pub contents : Option Contents
  pub faults : ℕ
  pub standard : Told
  pub is_used : Bool

abbrev pub inputs : Filed → Told → Bool → Inputs
inputs files standard is_used = record {
  contents = files.contents;
  faults = files.faults;
  standard = standard;
  is_used = is_used;
}

-- Standard input was taken. This is what it stands for: once it was used, nothing is left.
abbrev pub IsLeft : Bool → Bool → Told → Told → Input → Type 0
IsLeft true is_used before after left = (is_used ≡ true) × (after ≡ before) × (left ≡ nothing)
IsLeft false is_used before after left = (is_used ≡ true) × Hears before after left

-- The targets stand for these inputs, where standard input was or wasn't used before them, and is or isn't after them.
-- As long as it isn't, they stand for them whatever it stands for.
abbrev pub Takes : Bool → Bool → Told → Told → Option Contents → List Target → List Asked
    → Type 0
Takes true is_used before after contents list given =
    (is_used ≡ true) × (after ≡ before) × StandFor contents nothing list given
Takes false false before after contents list given =
    (after ≡ before) × ((standard : Input) → StandFor contents standard list given
    × (standard_after_all list standard ≡ standard))
Takes false true before after contents list given =
    (heard : Input) × Hears before after heard × StandFor contents heard list given
    × (standard_after_all list heard ≡ nothing)

-- the same of the last targets of a run, or of targets at which it stops
abbrev pub TakesAll : Bool → Told → Told → Option Contents → List Target → List Asked → Type 0
TakesAll true before after contents list given =
    (after ≡ before) × StandFor contents nothing list given
TakesAll false before after contents list given =
    (heard : Input) × Hears before after heard × StandFor contents heard list given
