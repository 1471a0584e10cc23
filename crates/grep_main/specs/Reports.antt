-- What pcre2grep makes of its targets: targets and what they stand for → the text of each after those before it.
use Rattle.std.specs.Prelude.{ℕ, Bool, true, false, not, if◌then◌else◌, List, [], ◌∷◌, codes, Option, Some, None}
use Rattle.line_feed.specs.Rows.{Input}
use Rattle.grep_args.specs.declared.plan.GrepPlan.{GrepPlan}
use Rattle.tool_io.specs.declared.target.Target.{Target}
use Rattle.tool_io.specs.declared.target.Target.TheVariants as targets
use Rattle.tool_io.specs.Asked.{Asked}
use Rattle.grep_main.specs.PatternFiles.{shown_name}
use Rattle.pat_tree.specs.Pattern.{Pattern}
use Rattle.grep_output.specs.Scans.{at_finish, early, too_many_errors}
use Rattle.tool_io.specs.Texts.{text_if}
use Rattle.grep_output.specs.Messages.{message_on}
use Rattle.grep_output.specs.declared.state.State.{State}
use Rattle.grep_output.specs.InputText.{Written, input_text}

-- All inputs.

-- why a target isn't searched: its name isn't a file's, or it is a directory that isn't gone through, or not whole
abbrev pub fault_said : Target → List ℕ
fault_said targets.Input = codes "cannot be opened"
fault_said (targets.File path) = codes "cannot be opened"
fault_said (targets.NoOpen path) = codes "cannot be opened"
fault_said (targets.NoList path) = codes "cannot be listed"
fault_said (targets.TooDeep path) = codes "too deep"
fault_said (targets.Unnamed path) = codes "an entry has no readable name"

-- what becomes of a target: its input is scanned, or it is missing
pub data Report : Type 0 where
  scanned : Written → Report
  missing : List ℕ → Report

-- its match errors were too many
abbrev pub is_broken : Report → Bool
is_broken (scanned w) =
    elim w.ended [ at_finish finish ↦ false | early ↦ false | too_many_errors ↦ true ]
is_broken (missing text) = false

abbrev pub state_after_report : State → Report → State
state_after_report before (scanned w) = w.state
state_after_report before (missing text) = before

module _ (plan : GrepPlan) (patterns : List Pattern) where
  -- of a target, after what the inputs before it leave; `-s` leaves its message out
  abbrev pub report_on : State → Target → Option Input → Report
  report_on before target None =
      missing (text_if (not plan.no_messages) (message_on (shown_name plan target)
      (fault_said target)))
  report_on before target (Some input) =
      scanned (input_text plan patterns (shown_name plan target) before input)

  abbrev pub report_of : State → Asked → Report
  report_of before a = report_on before a.target a.input

  -- each input after those before it, up to a match error that ends the run
  unfoldable pub reports : List Asked → State → List Report
  reports [] before = []
  reports (a ∷ given) before =
      let r = report_of before a in
      if is_broken r then r ∷ [] else r ∷ reports given (state_after_report before r)
