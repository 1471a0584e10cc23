-- The targets that a run asks for: words → plan → files of patterns, and then what the words for files stand for.
use Rattle.std.specs.Prelude.{◌≡◌, ℕ, Bool, IsTrue, List, [], ◌++◌, drop, map, Option, Some, None, Result, Ok, Err}
use Rattle.pcre_io.specs.Causes.{Rose}
use Rattle.pcre_io.specs.Files.{Contents}
use Rattle.grep_args.specs.declared.plan.GrepPlan.{GrepPlan}
use Rattle.grep_args.specs.declared.plan.HelpKind.{HelpKind}
use Rattle.grep_args.specs.Words.{Reads, plan_of}
use Rattle.tool_io.specs.declared.target.Target.{Target}
use Rattle.grep_targets.specs.Filters.{Filter, BadFilter, filter_of}
use Rattle.grep_targets.specs.Targets.{targets}
use Rattle.grep_targets.specs.Stands.{AreOfWords}
use Rattle.grep_targets.specs.Walks.{has_failed}
use Rattle.tool_io.specs.Asked.{named_target}

-- Over files that are told.

-- none is asked for where the filter is refused
abbrev pub filtered : Result Filter BadFilter → GrepPlan → Contents → List (List ℕ) → List Target
filtered (Err bad) plan set words = []
filtered (Ok filter) plan set words = targets filter set words plan.recursive

-- what the words for files stand for
abbrev pub targets_by : GrepPlan → Contents → List (List ℕ) → List Target
targets_by plan set words = filtered (filter_of plan) plan set words

-- files of patterns come first
abbrev pub asked_by_plan : GrepPlan → List Target → List Target
asked_by_plan plan list = map named_target plan.pattern_files ++ list

abbrev pub asked_unless : Option HelpKind → List Target → List Target
asked_unless (Some kind) list = []
asked_unless None list = list

-- the targets of a run, by the words after its name
abbrev pub asked_targets : Contents → List (List ℕ) → List Target
asked_targets set words = elim (plan_of words) [
  | Err fault ↦ []
  | Ok plan ↦
      asked_unless plan.help
      (asked_by_plan plan (targets_by plan set (drop plan.files_from words)))
]

-- Over any files, whose count of faults rose from `first` to `last`.

-- targets that words for files may stand for, whatever a set answers
abbrev pub MayStandFor : Result Filter BadFilter → Bool → List (List ℕ) → List Target → Type 0
MayStandFor (Err bad) recursive words list = list ≡ []
MayStandFor (Ok filter) recursive words list = AreOfWords recursive filter words list

-- the words for files stand for these targets: of files that aren't told one has failed only where a fault was counted
abbrev pub Lists : Option Contents → ℕ → ℕ → GrepPlan → List (List ℕ) → List Target → Type 0
Lists (Some set) first last plan words list = list ≡ targets_by plan set words
Lists None first last plan words list =
    MayStandFor (filter_of plan) plan.recursive words list
    × (IsTrue (has_failed list) → Rose first last)

abbrev pub AsksUnless : Option HelpKind → Option Contents → ℕ → ℕ → GrepPlan → List (List ℕ)
    → List Target → Type 0
AsksUnless (Some kind) contents first last plan words asked = asked ≡ []
AsksUnless None contents first last plan words asked =
    (list : List Target) × (asked ≡ asked_by_plan plan list)
    × Lists contents first last plan words list

abbrev pub AsksBy : Reads GrepPlan → Option Contents → ℕ → ℕ → List (List ℕ) → List Target
    → Type 0
AsksBy (Err fault) contents first last words asked = asked ≡ []
AsksBy (Ok plan) contents first last words asked =
    AsksUnless plan.help contents first last plan (drop plan.files_from words) asked

-- the words after the tool's name ask for these targets
abbrev pub AsksFor : Option Contents → ℕ → ℕ → List (List ℕ) → List Target → Type 0
AsksFor contents first last words asked = AsksBy (plan_of words) contents first last words asked
