-- What the targets of a run stand for: targets, files and standard input → inputs (pcre2grep, "DESCRIPTION"). Standard
-- input is empty after its first use.
use Rattle.std.specs.Prelude.{◌≡◌, ℕ, Bool, true, false, if◌then◌else◌, List, [], ◌∷◌, codes, bytes_eq, option_map}
use Rattle.std.specs.Prelude.{Option, Some, None, ⊤}
use Rattle.pcre_io.specs.Files.{Contents, File, opened_file}
use Rattle.line_feed.specs.Rows.{Input, End, input_with}
use Rattle.line_feed.specs.Hears.{heard}
use Rattle.tool_io.specs.declared.target.Target.{Target}
use Rattle.tool_io.specs.declared.target.Target.TheVariants as targets

-- a word that names an input; `-` is standard input
abbrev pub named_target : List ℕ → Target
named_target word = if bytes_eq word (codes "-") then targets.Input else targets.File word

abbrev pub is_standard : Target → Bool
is_standard targets.Input = true
is_standard _ = false

abbrev pub nothing : Input
nothing = input_with [] End

-- what is left of standard input: after its first use it is empty and has no fault
abbrev pub standard_after : Target → Input → Input
standard_after target standard = if is_standard target then nothing else standard

abbrev pub standard_after_all : List Target → Input → Input
standard_after_all [] standard = standard
standard_after_all (target ∷ list) standard = standard_after_all list (standard_after target standard)

-- a target, and the input that it stands for, if it is there
pub record Asked : Type 0 where
  pub target : Target
  pub input : Option Input

abbrev pub asked : Target → Option Input → Asked
asked target input = record { target = target; input = input }

-- Over files that are told.

abbrev pub input_of : File → Input
input_of file = heard file.bytes file.fault

-- what isn't a file's name isn't opened
abbrev pub file_input : Contents → Target → Option Input
file_input files (targets.File path) = option_map input_of (opened_file path files)
file_input files _ = None

abbrev pub input_named : Contents → Input → Target → Option Input
input_named files standard target = if is_standard target then Some standard else file_input files target

abbrev pub all_asked : Contents → Input → List Target → List Asked
all_asked files standard [] = []
all_asked files standard (target ∷ list) =
    asked target (input_named files standard target) ∷ all_asked files (standard_after target standard)
    list

-- Over any files: what a file is that isn't told is free.

abbrev pub Opened : Option Contents → List ℕ → Option Input → Type 0
Opened None path input = ⊤
Opened (Some files) path input = input ≡ option_map input_of (opened_file path files)

abbrev pub OpensTo : Option Contents → Target → Option Input → Type 0
OpensTo contents (targets.File path) input = Opened contents path input
OpensTo contents _ input = input ≡ None

abbrev pub Stands : Bool → Option Contents → Input → Target → Option Input → Type 0
Stands true contents standard target input = input ≡ Some standard
Stands false contents standard target input = OpensTo contents target input

-- the targets, in order, stand for these inputs
abbrev pub StandFor : Option Contents → Input → List Target → List Asked → Type 0
StandFor contents standard [] [] = ⊤
StandFor contents standard [] (a ∷ given) = ⊥
StandFor contents standard (target ∷ list) [] = ⊥
StandFor contents standard (target ∷ list) (a ∷ given) =
    (a.target ≡ target) × Stands (is_standard target) contents standard target a.input
    × StandFor contents (standard_after target standard) list given
