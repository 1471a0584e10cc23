-- What searching one target does.
use Rattle.std.proofs.Common.{◌≡◌, refl, sym, ap, subst, ℕ, Bool, true, false, List, [], ◌∷◌, option_map, Option}
use Rattle.std.proofs.Common.{None, Some, Result, Ok, Err}
use Rattle.std.proofs.lemmas.Bool.{false≢true}
use Rattle.pcre_io.specs.Told.{Told, Kept}
use Rattle.pcre_io.specs.Files.{Contents, IsMissing}
use Rattle.line_feed.specs.Rows.{Input}
use Rattle.grep_args.specs.declared.plan.GrepPlan.{GrepPlan}
use Rattle.grep_output.specs.declared.ended.FileEnd.{FileEnd}
use Rattle.grep_output.specs.declared.ended.Stop.{Stop}
use Rattle.grep_output.specs.declared.ended.Stop.TheVariants.{SinkFault, TooManyErrors, Memory}
use Rattle.grep_output.specs.declared.state.State.{State}
use Rattle.tool_io.specs.declared.target.Target.{Target}
use Rattle.tool_io.specs.declared.target.Target.TheVariants as targets
use Rattle.tool_io.specs.Absent.{AbsentBy}
use Rattle.tool_io.specs.Asked.{asked, is_standard, input_of, Opened, OpensTo}
use Rattle.pat_tree.specs.Pattern.{Pattern}
use Rattle.grep_output.specs.InputText.{Written, input_text}
use Rattle.grep_core.specs.OneInput.{GrepsTo}
use Rattle.grep_main.specs.PatternFiles.{shown_name}
use Rattle.grep_main.specs.Leaves.{LeavesScan, LeavesTarget, Uses}
use Rattle.grep_main.specs.Reports.{Report, scanned, report_on}
use Rattle.grep_core.proofs.FileTexts.{breaks-none}
use Rattle.tool_io.specs.Takes.{IsLeft}
use Rattle.grep_main.specs.Searches.{ReportsTo, ReportsTargetFrom}
use Rattle.tool_io.proofs.Absence.{absent-there}
use Rattle.tool_io.proofs.Taking.{takes-standard, takes-opened}
use Rattle.tool_io.specs.Printed.{Printed, printed}

-- there is no file of this name
pub opened-missing : (contents : Option Contents) (name : List ℕ) → IsMissing contents name → Opened contents name None
opened-missing None name missing = tt
opened-missing (Some set) name missing = sym (ap (option_map input_of) missing)

-- memory lacked when it was opened
pub reports-lacks : (plan : GrepPlan) (patterns : List Pattern) (s : State) (target : Target) (given : Option Input)
    (out err : Kept) → ReportsTo (report_on plan patterns s target given) s s (printed out err) (printed out err)
    (Err Memory)
reports-lacks plan patterns s target None out err = breaks-none [] _ out err Memory refl
reports-lacks plan patterns s target (Some input) out err = breaks-none _ _ out err Memory refl

-- what a scan that ended tells
abbrev pub some_end : Result FileEnd Stop → Result (Option FileEnd) Stop
some_end (Ok end) = Ok (Some end)
some_end (Err stop) = Err stop

pub reports-scanned : (plan : GrepPlan) (patterns : List Pattern) (s s_new : State) (target : Target) (input : Input)
    (old new : Printed) (result : Result FileEnd Stop)
    → GrepsTo (input_text plan patterns (shown_name plan target) s input) s_new old new result
    → ReportsTo (report_on plan patterns s target (Some input)) s s_new old new (some_end result)
reports-scanned plan patterns s s_new target input old new (Ok end) greps = greps
reports-scanned plan patterns s s_new target input old new (Err stop) greps = greps

-- what is left of standard input
leaves-standard : (was_used : Bool) (w : Written) (before after : Told) (result : Result FileEnd Stop)
    → (was_used ≡ false → LeavesScan w before after result)
    → LeavesTarget was_used true before after (scanned w) (some_end result)
leaves-standard true w before after (Ok end) h = tt
leaves-standard true w before after (Err stop) h = tt
leaves-standard false w before after (Ok end) h = h refl
leaves-standard false w before after (Err SinkFault) h = h refl
leaves-standard false w before after (Err TooManyErrors) h = tt
leaves-standard false w before after (Err Memory) h = tt

used-left : (was_used is_used : Bool) (before after : Told) (left : Input) → IsLeft was_used is_used before after left
    → is_used ≡ true
used-left true is_used before after left h = h.0
used-left false is_used before after left h = h.0

leaves-other : (was_used is_standard : Bool) (r : Report) (before after : Told)
    (result : Result (Option FileEnd) Stop) → is_standard ≡ false
    → LeavesTarget was_used is_standard before after r result
leaves-other true b r before after result is = tt
leaves-other false true r before after result is = absurd (false≢true (sym is))
leaves-other false false r before after result is = tt

module _ (plan : GrepPlan) (patterns : List Pattern) (target : Target) (contents : Option Contents) (first last : ℕ)
    (s s_new : State) (old new : Printed) where
  -- it is standard input
  pub target-standard : (was_used is_used : Bool) (before after : Told) (left : Input) (result : Result FileEnd Stop)
      → target ≡ targets.Input → IsLeft was_used is_used before after left
      → GrepsTo (input_text plan patterns plan.label s left) s_new old new result
      → (was_used ≡ false → LeavesScan (input_text plan patterns plan.label s left) before after result)
      → ReportsTargetFrom plan patterns target contents first last was_used is_used before after s s_new old new
      (some_end result)
  target-standard was_used is_used before after left result is taken greps leaves =
      subst (λ t. ReportsTargetFrom plan patterns t contents first last was_used is_used before after s s_new old new
      (some_end result)) (sym is) (record {
        given = Some left;
        takes = takes-standard was_used is_used before after contents targets.Input left refl taken;
        reports = reports-scanned plan patterns s s_new targets.Input left old new result greps;
        absent = absent-there contents first last targets.Input left;
        uses = used-left was_used is_used before after left taken;
        leaves = leaves-standard was_used (input_text plan patterns plan.label s left) before after result leaves;
      })

  -- it is a file, or it isn't searched
  pub target-other : (other : Target) (used : Bool) (t : Told) (given : Option Input)
      (result : Result (Option FileEnd) Stop) → target ≡ other → is_standard other ≡ false
      → OpensTo contents other given
      → ReportsTo (report_on plan patterns s other given) s s_new old new result
      → AbsentBy contents first last (asked other given ∷ [])
      → ReportsTargetFrom plan patterns target contents first last used used t t s s_new old new result
  target-other other used t given result is named opens reports absent =
      subst (λ x. ReportsTargetFrom plan patterns x contents first last used used t t s s_new old new result) (sym is)
      (record {
        given = given;
        takes = takes-opened used t contents other given named opens;
        reports = reports;
        absent = absent;
        uses = subst (λ b. Uses b used used t t) (sym named) (refl, refl);
        leaves = leaves-other used (is_standard other) (report_on plan patterns s other given) t t result named;
      })
