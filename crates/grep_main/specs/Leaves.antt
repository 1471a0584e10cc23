-- What a run tells of its inputs beside its text: words → plan → patterns → the scan of standard input → how much past
-- an early end was taken of it; and that a file is absent only where a fault was counted.
use Rattle.std.specs.Prelude.{◌≡◌, ◌≢◌, ℕ, Bool, true, false, List, [], ◌∷◌, ◌++◌, length, take, drop, Option, Some}
use Rattle.std.specs.Prelude.{None, Result, Ok, Err, ⊤}
use Rattle.std.specs.List.{list_any}
use Rattle.pcre_io.specs.Told.{Told}
use Rattle.pcre_io.specs.Files.{Contents, Filed}
use Rattle.grep_output.specs.LittlePast.{TakesLittlePast}
use Rattle.grep_args.specs.declared.plan.GrepPlan.{GrepPlan}
use Rattle.grep_args.specs.declared.plan.HelpKind.{HelpKind}
use Rattle.grep_args.specs.Words.{Reads, plan_of}
use Rattle.grep_output.specs.declared.ended.Stop.{Stop}
use Rattle.grep_output.specs.declared.ended.Stop.TheVariants.{SinkFault, TooManyErrors, Memory}
use Rattle.grep_output.specs.declared.state.State.{State}
use Rattle.grep_output.specs.declared.ended.FileEnd.{FileEnd}
use Rattle.grep_output.specs.InputText.{Written, first_state}
use Rattle.grep_core.specs.WholeScans.{LeavesRest}
use Rattle.grep_output.specs.Scans.{early}
use Rattle.grep_core.specs.grep_match.Compiled.{Compiled, patterns_of}
use Rattle.pat_tree.specs.Pattern.{Pattern}
use Rattle.tool_io.specs.declared.target.Target.{Target}
use Rattle.tool_io.specs.Absent.{AbsentBy}
use Rattle.tool_io.specs.Asked.{Asked, is_standard}
use Rattle.grep_main.specs.PatternFiles.{FileTexts, texts_in_files}
use Rattle.grep_main.specs.Reports.{Report, scanned, missing, report_of, state_after_report}
use Rattle.grep_main.specs.ToolText.{with_names, targets_of}

-- by a test
abbrev pub Either : Bool → Type 0 → Type 0 → Type 0
Either true first second = first
Either false first second = second

module _ (before after : Told) where
  -- a scan that ended before its input did left the rest
  abbrev pub LeavesIt : Report → Type 0
  LeavesIt (scanned w) = w.ended ≡ early → TakesLittlePast w.within before after
  LeavesIt (missing text) = ⊤

  module _ (plan : GrepPlan) (patterns : List Pattern) where
    -- the first of the targets that is standard input; after what these inputs leave
    abbrev pub LeavesAll : List Asked → State → Type 0
    LeavesAll [] s = ⊤
    LeavesAll (a ∷ given) s =
        Either (is_standard a.target) (LeavesIt (report_of plan patterns s a))
        (LeavesAll given (state_after_report s (report_of plan patterns s a)))

  -- by the patterns
  abbrev pub LeavesBy : List (List ℕ) → GrepPlan → List Asked → Compiled → Type 0
  LeavesBy words plan given (Err bad) = ⊤
  LeavesBy words plan given (Ok patterns) =
      LeavesAll (with_names words (targets_of given) plan) patterns given first_state

  abbrev pub LeavesTexts : List (List ℕ) → GrepPlan → List Asked → FileTexts → Type 0
  LeavesTexts words plan given (Err text) = ⊤
  LeavesTexts words plan given (Ok texts) =
      LeavesBy words plan given (patterns_of plan (plan.patterns ++ texts))

  -- by the files of patterns, and the targets of these words
  abbrev pub LeavesPlan : List (List ℕ) → GrepPlan → List Asked → List Asked → Type 0
  LeavesPlan words plan pattern_files given =
      LeavesTexts words plan given (texts_in_files plan pattern_files)

  abbrev pub LeavesHelp : List (List ℕ) → GrepPlan → List Asked → Option HelpKind → Type 0
  LeavesHelp words plan given (Some kind) = ⊤
  LeavesHelp words plan given None =
      LeavesPlan words plan (take (length plan.pattern_files) given)
      (drop (length plan.pattern_files) given)

  abbrev pub LeavesReads : List Asked → List (List ℕ) → Reads GrepPlan → Type 0
  LeavesReads given words (Err fault) = ⊤
  LeavesReads given words (Ok plan) =
      LeavesHelp (drop plan.files_from words) plan given plan.help

-- Where the scan of standard input ends before its input does, at most 65,536 bytes past its last
-- line were taken of it, also where a write was refused. So it is for a run on the words after the
-- tool's name, whose targets stand for these inputs.
unfoldable pub LeavesInput : List (List ℕ) → List Asked → Told → Told → Type 0
LeavesInput words given before after = LeavesReads before after given words (plan_of words)

-- nothing of this is said of standard input where it was used before
abbrev pub Unless : Bool → Type 0 → Type 0
Unless true fact = ⊤
Unless false fact = fact

-- where memory didn't lack
abbrev pub UnlessLacks : {T : Type 0} → Result T Stop → Type 0 → Type 0
UnlessLacks (Ok _) fact = fact
UnlessLacks (Err TooManyErrors) fact = fact
UnlessLacks (Err SinkFault) fact = fact
UnlessLacks (Err Memory) fact = ⊤

-- what is told of inputs, over files whose count of faults rose from `first` to `last`
pub record TiesBy {T : Type 0} (contents : Option Contents) (first last : ℕ) (given : List Asked)
    (result : Result T Stop) (fact : Type 0) : Type 0 where
  pub absent : AbsentBy contents first last given
  pub leaves : UnlessLacks result fact

-- the same of files that told this before, and tell this now
abbrev pub Ties : {T : Type 0} → Filed → Filed → List Asked → Result T Stop → Type 0 → Type 0
Ties old new given result fact = TiesBy old.contents old.faults new.faults given result fact

-- the same of a run that answers this status, which is 3 where memory lacked
pub record RunTies (old new : Filed) (given : List Asked) (status : ℕ) (fact : Type 0)
    : Type 0 where
  pub absent : AbsentBy old.contents old.faults new.faults given
  pub leaves : status ≢ 3 → fact

-- the scan of standard input
abbrev pub LeavesScan : Written → Told → Told → Result FileEnd Stop → Type 0
LeavesScan w before after result = LeavesRest w.ended w.within before after result

-- standard input that isn't among the targets is left as it was
abbrev pub LeavesUnasked : List Target → Told → Told → Type 0
LeavesUnasked list before after = list_any is_standard list ≡ false → after ≡ before

-- a target that is standard input uses it, and another one leaves it as it is
abbrev pub Uses : Bool → Bool → Bool → Told → Told → Type 0
Uses true was_used is_used before after = is_used ≡ true
Uses false was_used is_used before after = (is_used ≡ was_used) × (after ≡ before)

-- what is told of one target that was searched: of standard input where it wasn't used before
abbrev pub LeavesTarget : {T : Type 0} → Bool → Bool → Told → Told → Report → Result T Stop → Type 0
LeavesTarget false true before after report (Ok _) = LeavesIt before after report
LeavesTarget false true before after report (Err SinkFault) = LeavesIt before after report
LeavesTarget _ _ before after report result = ⊤
