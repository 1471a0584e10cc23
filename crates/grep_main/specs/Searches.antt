-- What searching the targets does, one by one: a target, and how the search stood → what it stands for → its report →
-- what was written, and how the search stands then.
use Rattle.std.specs.Prelude.{◌≡◌, ℕ, ◌≤◌, ◌<◌, ◌^◌, Bool, List, [], ◌∷◌, Option, Some, None, Result, Ok, Err}
use Rattle.pcre_io.specs.Told.{Told}
use Rattle.pcre_io.specs.Files.{Contents}
use Rattle.line_feed.specs.Rows.{Input}
use Rattle.grep_args.specs.declared.plan.GrepPlan.{GrepPlan}
use Rattle.grep_args.specs.Limits.{IsWithinLimits}
use Rattle.grep_output.specs.declared.ended.FileEnd.{FileEnd}
use Rattle.grep_output.specs.declared.ended.Stop.{Stop}
use Rattle.grep_output.specs.declared.ended.Stop.TheVariants.{SinkFault, TooManyErrors}
use Rattle.grep_output.specs.declared.state.State.{State}
use Rattle.tool_io.specs.declared.target.Target.{Target}
use Rattle.tool_io.specs.Absent.{AbsentBy}
use Rattle.tool_io.specs.Asked.{asked, is_standard}
use Rattle.pat_tree.specs.Pattern.{Pattern}
use Rattle.grep_core.specs.OneInput.{GrepsTo}
use Rattle.grep_main.specs.Reports.{Report, scanned, missing, report_of}
use Rattle.grep_main.specs.Leaves.{LeavesTarget, Uses}
use Rattle.tool_io.specs.Prints.{Wrote, Breaks}
use Rattle.tool_io.specs.Takes.{Takes, Inputs}
use Rattle.tool_io.specs.Printed.{Printed}

-- one more input can be searched
pub record IsReady (plan : GrepPlan) (s : State) : Type 0 where
  pub limits : IsWithinLimits plan
  pub errors : s.errors ≤ 20
  pub total : s.total < 2 ^ 127

-- an input was scanned, or it is missing
abbrev pub ReportsTo : Report → State → State → Printed → Printed → Result (Option FileEnd) Stop
    → Type 0
ReportsTo (scanned w) s s_new old new (Ok (Some end)) = GrepsTo w s_new old new (Ok end)
ReportsTo (scanned w) s s_new old new (Ok None) = ⊥
ReportsTo (scanned w) s s_new old new (Err stop) = GrepsTo w s_new old new (Err stop)
ReportsTo (missing text) s s_new old new (Ok (Some end)) = ⊥
ReportsTo (missing text) s s_new old new (Ok None) = Wrote [] text old new × (s_new ≡ s)
ReportsTo (missing text) s s_new old new (Err TooManyErrors) = ⊥
ReportsTo (missing text) s s_new old new (Err stop) = Breaks [] text old new (stop ≡ SinkFault)

-- what a target stands for was searched
pub record ReportsTargetFrom (plan : GrepPlan) (patterns : List Pattern) (target : Target)
    (contents : Option Contents) (first last : ℕ) (was_used is_used : Bool) (before after : Told)
    (s s_new : State) (old new : Printed) (result : Result (Option FileEnd) Stop) : Type 0 where
  pub given : Option Input
  pub takes : Takes was_used is_used before after contents (target ∷ []) (asked target given ∷ [])
  pub reports : ReportsTo (report_of plan patterns s (asked target given)) s s_new old new result
  pub absent : AbsentBy contents first last (asked target given ∷ [])
  pub uses : Uses (is_standard target) was_used is_used before after
  pub leaves : LeavesTarget was_used (is_standard target) before after
      (report_of plan patterns s (asked target given)) result

-- how a search stands between two targets
pub record Searching : Type 0 where
  pub inputs : Inputs
  pub state : State
  pub printed : Printed

abbrev pub searching : Inputs → State → Printed → Searching
searching inputs state printed = record { inputs = inputs; state = state; printed = printed }

abbrev pub ReportsTarget : GrepPlan → List Pattern → Target → Searching → Searching
    → Result (Option FileEnd) Stop → Type 0
ReportsTarget plan patterns target old new result =
    ReportsTargetFrom plan patterns target old.inputs.contents old.inputs.faults new.inputs.faults
    old.inputs.is_used new.inputs.is_used old.inputs.standard new.inputs.standard
    old.state new.state old.printed new.printed result
