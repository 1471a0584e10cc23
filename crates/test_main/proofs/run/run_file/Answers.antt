use Rattle.std.proofs.Common.{◌≡◌, codes, None, Some, Err, sym, subst, arith, rules}
use Rattle.pcre_io.specs.Files.{IsMissing}
use Rattle.tool_io.specs.declared.target.Target.TheVariants as targets
use Rattle.tool_io.proofs.Absence.{absent-there, absent-rose, opened-there}
use Rattle.tool_io.proofs.Taking.{opened-heard, opened-any}
use Rattle.tool_io.specs.Printed.{printed}
use Rattle.test_main.specs.RunsBy.{RunsBy}
use Rattle.test_main.specs.ToolText.{message_on, text_on, file_given}
use Rattle.test_main.specs.Opens.{AreGiven}
use Rattle.test_main.proofs.Running.{said-whole, said-part, lacks, opened-missing, given-opened, unless-any}
use Rattle.test_main.proofs.run.run_file.Goals as goal

pub returns-in-Ok-clause-runs : goal.returns-in-Ok-clause-runs
returns-in-Ok-clause-runs g c =
    let r = c.run_source.ensures in (
      Some r.0,
      opened-heard (g.F.FileSet.tells c.args.files.now).contents c.args.name.now (g.F.Src.Source.tells c.in-Ok.source)
          (g.F.Src.Source.tells c.run_source.new.source) r.0 c.in-Ok.ensures.opened r.1,
      r.2,
      absent-there (g.F.FileSet.tells c.args.files.now).contents (g.F.FileSet.tells c.args.files.now).faults
          (g.F.FileSet.tells c.open_file.new.self).faults (targets.File c.args.name.now) r.0,
      unless-any c.run_source.result (AreGiven g.F.Src.Source.tells (g.F.FileSet.tells c.args.files.now).contents
          (file_given c.args.name.now (Some r.0)))
          (given-opened g.F.Src.Source.tells (g.F.FileSet.tells c.args.files.now).contents c.args.name.now
          c.in-Ok.source c.run_source.new.source r.0 c.in-Ok.ensures.opened r.1),
    )

pub returns-in_ok-write_message-in-Err-Failed-clause-runs : goal.returns-in_ok-write_message-in-Err-Failed-clause-runs
returns-in_ok-write_message-in-Err-Failed-clause-runs g c =
    let contents = (g.F.FileSet.tells c.args.files.now).contents in
    let name = c.args.name.now in
    let missing : IsMissing contents name = c.in-Err-Failed.ensures.missing (search rules) in (
      None,
      opened-missing contents name missing,
      said-whole (message_on name (codes "cannot be opened")) 1 (omega arith) (g.O.Sink.tells c.args.out.now)
          (g.E.Sink.tells c.args.err.now) (g.E.Sink.tells c.write_message.new.err) _
          c.in_ok-write_message-in-Err-Failed.ensures,
      absent-rose contents (g.F.FileSet.tells c.args.files.now).faults (g.F.FileSet.tells c.open_file.new.self).faults
          (file_given name None) (c.in-Err-Failed.ensures.cause.failed (search rules)),
      (tt, tt),
    )

pub returns-in_err-write_message-in-Err-Failed-clause-runs : goal.returns-in_err-write_message-in-Err-Failed-clause-runs
returns-in_err-write_message-in-Err-Failed-clause-runs g c =
    let contents = (g.F.FileSet.tells c.args.files.now).contents in
    let name = c.args.name.now in
    let out = g.O.Sink.tells c.args.out.now in
    let err = g.E.Sink.tells c.args.err.now in
    let err_new = g.E.Sink.tells c.write_message.new.err in
    let e = c.in_err-write_message-in-Err-Failed.field-0.0 in
    let same : c.from_residual.result ≡ Err e = search rules in
    let missing : IsMissing contents name = c.in-Err-Failed.ensures.missing (search rules) in (
      None,
      opened-missing contents name missing,
      subst (RunsBy (text_on c.args.plan.now name None) (printed out err) (printed out err_new)) (sym same)
          (said-part (message_on name (codes "cannot be opened")) 1 (omega arith) out err err_new e
          c.in_err-write_message-in-Err-Failed.ensures),
      absent-rose contents (g.F.FileSet.tells c.args.files.now).faults (g.F.FileSet.tells c.open_file.new.self).faults
          (file_given name None) (c.in-Err-Failed.ensures.cause.failed (search rules)),
      unless-any c.from_residual.result (AreGiven g.F.Src.Source.tells contents (file_given name None)) (tt, tt),
    )

pub returns-in-Err-Memory-clause-runs : goal.returns-in-Err-Memory-clause-runs
returns-in-Err-Memory-clause-runs g c =
    let any = opened-any (g.F.FileSet.tells c.args.files.now).contents c.args.name.now in (
      any.0,
      any.1,
      lacks (text_on c.args.plan.now c.args.name.now any.0)
          (printed (g.O.Sink.tells c.args.out.now) (g.E.Sink.tells c.args.err.now)),
      opened-there (g.F.FileSet.tells c.args.files.now).contents (g.F.FileSet.tells c.args.files.now).faults
          (g.F.FileSet.tells c.open_file.new.self).faults c.args.name.now,
      tt,
    )
