use Rattle.std.proofs.Common.{Some, refl}
use Rattle.grep_output.specs.declared.ended.Stop.TheVariants.{Memory}
use Rattle.grep_main.specs.PatternFiles.{texts_of}
use Rattle.tool_io.specs.declared.target.Target.TheVariants as targets
use Rattle.tool_io.proofs.Taking.{opened-heard, opened-any}
use Rattle.tool_io.proofs.Absence.{absent-there, opened-there}
use Rattle.grep_main.proofs.FilePatterns.{adds-lacks}
use Rattle.grep_main.proofs.pattern_files.add_named.Goals as goal

pub returns-in-Ok-clause-adds : goal.returns-in-Ok-clause-adds
returns-in-Ok-clause-adds g c =
    let adds = c.add_source.ensures in (
      Some adds.0,
      opened-heard (g.F.FileSet.tells c.args.files.now).contents c.args.name.now
          (g.F.Src.Source.tells c.in-Ok.source) (g.F.Src.Source.tells c.add_source.new.source) adds.0
          c.in-Ok.ensures.opened adds.1,
      adds.2,
      absent-there (g.F.FileSet.tells c.args.files.now).contents
          (g.F.FileSet.tells c.args.files.now).faults (g.F.FileSet.tells c.open_file.new.self).faults
          (targets.File c.args.name.now) adds.0,
    )

pub returns-in-Err-Memory-clause-adds : goal.returns-in-Err-Memory-clause-adds
returns-in-Err-Memory-clause-adds g c =
    let any = opened-any (g.F.FileSet.tells c.args.files.now).contents c.args.name.now in
    let err = g.E.Sink.tells c.args.err.now in (
      any.0,
      any.1,
      adds-lacks (texts_of c.args.plan.now c.args.name.now any.0) c.args.texts.now c.args.texts.now err
          err Memory refl refl,
      opened-there (g.F.FileSet.tells c.args.files.now).contents
          (g.F.FileSet.tells c.args.files.now).faults (g.F.FileSet.tells c.open_file.new.self).faults c.args.name.now,
    )
