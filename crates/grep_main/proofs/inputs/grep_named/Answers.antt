use Rattle.std.proofs.Common.{rules, ◌≡◌, sym, subst, None, Some, Err, [], ◌∷◌}
use Rattle.pcre_io.specs.Files.{IsMissing}
use Rattle.tool_io.specs.declared.target.Target.TheVariants as targets
use Rattle.grep_core.specs.grep_match.Compiled.{patterns_in}
use Rattle.grep_main.specs.Reports.{report_on}
use Rattle.grep_main.specs.Searches.{ReportsTo}
use Rattle.tool_io.specs.Asked.{asked}
use Rattle.tool_io.proofs.Absence.{absent-there, absent-rose, opened-there}
use Rattle.tool_io.proofs.Taking.{opened-heard, opened-any}
use Rattle.grep_main.proofs.Reporting.{opened-missing, reports-lacks, reports-scanned}
use Rattle.grep_main.proofs.inputs.grep_named.Goals as goal
use Rattle.tool_io.specs.Printed.{printed}

pub returns-in_err-end-in-Ok-clause-reports : goal.returns-in_err-end-in-Ok-clause-reports
returns-in_err-end-in-Ok-clause-reports g c =
    let plan = c.args.plan.now in
    let patterns = patterns_in c.args.patterns.now in
    let s = c.args.state.now in
    let name = c.args.name.now in
    let greps = c.in_err-end-in-Ok.ensures.greps in
    let stop = c.in_err-end-in-Ok.field-0.0 in
    let same : c.from_residual.result ≡ Err stop = search rules in (
      Some greps.heard,
      opened-heard (g.F.FileSet.tells c.args.files.now).contents name (g.F.Src.Source.tells c.in-Ok.source)
          (g.F.Src.Source.tells c.grep_file_by.new.source) greps.heard c.in-Ok.ensures.opened greps.hears,
      subst (ReportsTo (report_on plan patterns s (targets.File name) (Some greps.heard)) s c.grep_file_by.new.state
          (printed (g.O.Sink.tells c.args.out.now) (g.E.Sink.tells c.args.err.now))
          (printed (g.O.Sink.tells c.grep_file_by.new.out) (g.E.Sink.tells c.grep_file_by.new.err))) (sym same)
          (reports-scanned plan patterns s c.grep_file_by.new.state (targets.File name) greps.heard
          (printed (g.O.Sink.tells c.args.out.now) (g.E.Sink.tells c.args.err.now))
          (printed (g.O.Sink.tells c.grep_file_by.new.out) (g.E.Sink.tells c.grep_file_by.new.err)) (Err stop)
          greps.greps),
      absent-there (g.F.FileSet.tells c.args.files.now).contents (g.F.FileSet.tells c.args.files.now).faults
          (g.F.FileSet.tells c.open_file.new.self).faults (targets.File name) greps.heard,
    )

pub returns-in_ok-end-in-Ok-clause-reports : goal.returns-in_ok-end-in-Ok-clause-reports
returns-in_ok-end-in-Ok-clause-reports g c =
    let greps = c.in_ok-end-in-Ok.ensures.greps in (
      Some greps.heard,
      opened-heard (g.F.FileSet.tells c.args.files.now).contents c.args.name.now (g.F.Src.Source.tells c.in-Ok.source)
          (g.F.Src.Source.tells c.grep_file_by.new.source) greps.heard c.in-Ok.ensures.opened greps.hears,
      greps.greps,
      absent-there (g.F.FileSet.tells c.args.files.now).contents (g.F.FileSet.tells c.args.files.now).faults
          (g.F.FileSet.tells c.open_file.new.self).faults (targets.File c.args.name.now) greps.heard,
    )

pub returns-in-Err-Failed-clause-reports : goal.returns-in-Err-Failed-clause-reports
returns-in-Err-Failed-clause-reports g c =
    let contents = (g.F.FileSet.tells c.args.files.now).contents in
    let missing : IsMissing contents c.args.name.now = c.in-Err-Failed.ensures.missing (search rules) in (
      None,
      opened-missing contents c.args.name.now missing,
      c.pass_over.ensures c.args.state.now (g.O.Sink.tells c.args.out.now),
      absent-rose contents (g.F.FileSet.tells c.args.files.now).faults (g.F.FileSet.tells c.open_file.new.self).faults
          (asked (targets.File c.args.name.now) None ∷ []) (c.in-Err-Failed.ensures.cause.failed (search rules)),
    )

pub returns-in-Err-Memory-clause-reports : goal.returns-in-Err-Memory-clause-reports
returns-in-Err-Memory-clause-reports g c =
    let any = opened-any (g.F.FileSet.tells c.args.files.now).contents c.args.name.now in (
      any.0,
      any.1,
      reports-lacks c.args.plan.now (patterns_in c.args.patterns.now) c.args.state.now
          (targets.File c.args.name.now) any.0 (g.O.Sink.tells c.args.out.now) (g.E.Sink.tells c.args.err.now),
      opened-there (g.F.FileSet.tells c.args.files.now).contents (g.F.FileSet.tells c.args.files.now).faults
          (g.F.FileSet.tells c.open_file.new.self).faults c.args.name.now,
    )
