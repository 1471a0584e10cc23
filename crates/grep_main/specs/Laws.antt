-- What the text of a run says in a plain case.
use Rattle.std.specs.Prelude.{◌≡◌, ◌≢◌, ℕ, ◌<◌, ◌≤◌, List, ◌++◌, length, take, drop, map, filter, sum_by, All}
use Rattle.std.specs.Prelude.{Option, None, Some, Ok, [], ◌∷◌}
use Rattle.pcre_io.specs.Files.{Contents}
use Rattle.line_feed.specs.Rows.{Input, End, Long}
use Rattle.grep_args.specs.declared.plan.GrepPlan.{GrepPlan}
use Rattle.grep_args.specs.Words.{plan_of}
use Rattle.tool_io.specs.declared.target.Target.{Target}
use Rattle.tool_io.specs.declared.target.Target.TheVariants as targets
use Rattle.grep_targets.specs.Filters.{Filter, filter_of}
use Rattle.tool_io.specs.Asked.{Asked, StandFor, asked}
use Rattle.pat_tree.specs.Pattern.{Pattern}
use Rattle.grep_core.specs.grep_match.Compiled.{patterns_of}
use Rattle.grep_core.specs.grep_match.Matches.{tried_row, has_error}
use Rattle.grep_output.specs.Lines.{lines}
use Rattle.grep_main.specs.PatternFiles.{texts_in_files}
use Rattle.grep_main.specs.ToolText.{with_names, targets_of, text_of}
use Rattle.grep_main.specs.Asks.{AsksFor, asked_targets}

-- an input is there with its end, and no line of it is longer than the maximum
pub record IsWhole (plan : GrepPlan) (a : Asked) : Type 0 where
  pub input : Input
  pub there : a.input ≡ Some input
  pub ends : input.ending ≡ End
  pub short : (n : ℕ) → (lines plan input).finish ≢ Long n

-- the lines of an input that have a match error
abbrev pub errors_in : GrepPlan → List Pattern → Option Input → ℕ
errors_in plan patterns None = 0
errors_in plan patterns (Some input) =
    length (filter has_error (map (tried_row plan patterns) (lines plan input).rows))

-- The words and the patterns are accepted, also those for names, the files of patterns are read, the inputs are there
-- with their ends, their lines are within the maximum, and at most 20 of these have a match error.
pub record IsSound (words : List (List ℕ)) (given : List Asked) : Type 0 where
  pub plan : GrepPlan
  pub accepted : plan_of words ≡ Ok plan
  pub texts : List (List ℕ)
  pub readable : texts_in_files plan (take (length plan.pattern_files) given) ≡ Ok texts
  pub patterns : List Pattern
  pub compiled : patterns_of plan (plan.patterns ++ texts) ≡ Ok patterns
  pub filter : Filter
  pub filtered : filter_of plan ≡ Ok filter
  pub whole :
      let inputs = drop (length plan.pattern_files) given in
      All (IsWhole (with_names (drop plan.files_from words) (targets_of inputs) plan)) inputs
  pub few :
      let inputs = drop (length plan.pattern_files) given in
      let named = with_names (drop plan.files_from words) (targets_of inputs) plan in
      sum_by (λ (a : Asked). errors_in named patterns a.input) inputs ≤ 20

-- such a run of pcre2grep has status 0 or 1
abbrev pub SoundEndWell : Type 0
SoundEndWell =
    (words : List (List ℕ)) (given : List Asked) → IsSound words given
    → (text_of words given).status < 2

-- over files that are told a run asks for one list of targets
abbrev pub ToldAskForOne : Type 0
ToldAskForOne =
    (set : Contents) (first last : ℕ) (words : List (List ℕ)) (asked : List Target)
    → AsksFor (Some set) first last words asked
    → asked ≡ asked_targets set words

-- The words are accepted and name no file: neither one of patterns nor one to be searched.
pub record NamesNoFile (words : List (List ℕ)) : Type 0 where
  pub plan : GrepPlan
  pub accepted : plan_of words ≡ Ok plan
  pub searches : plan.help ≡ None
  pub patterns : plan.pattern_files ≡ []
  pub inputs : drop plan.files_from words ≡ []
  pub filter : Filter
  pub filtered : filter_of plan ≡ Ok filter

-- Over any files, told or not, such a run searches standard input alone.
abbrev pub NoneButStandard : Type 0
NoneButStandard =
    (contents : Option Contents) (first last : ℕ) (words : List (List ℕ)) (heard : Input) (list : List Target)
    (given : List Asked) → NamesNoFile words → AsksFor contents first last words list
    → StandFor contents heard list given → given ≡ asked targets.Input (Some heard) ∷ []
