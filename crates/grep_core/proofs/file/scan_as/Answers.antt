use Rattle.std.proofs.Common.{rules, ◌≡◌, Err, Ok, refl, sym, ◌∙◌}
use Rattle.grep_output.specs.declared.ended.Stop.TheVariants.{Memory}
use Rattle.grep_core.specs.Work.{work_of}
use Rattle.grep_core.proofs.FileTexts.{scans-skipped, scans-lacks, scans-whole, skipped-is, skipped-not}
use Rattle.grep_core.proofs.file.scan_as.Goals as goal

pub returns-then-is_skipped-clause-scans : goal.returns-then-is_skipped-clause-scans
returns-then-is_skipped-clause-scans g c before job stood =
    scans-skipped (work_of c.args.job.now) c.args.scanner.now.state c.args.treatment before
    (g.S.Source.tells c.args.source.now) c.args.scanner.now.feed
    _ (skipped-is c.args.treatment (sym c.is_skipped.ensures ∙ c.if-is_skipped.true)) stood c.requires.near
    c.requires.begun

pub returns-in_err-new-clause-scans : goal.returns-in_err-new-clause-scans
returns-in_err-new-clause-scans g c before job stood =
    let same : c.from_residual.result ≡ Err Memory = search rules in
    scans-lacks (work_of c.args.job.now) c.args.scanner.now.state c.args.treatment before
    (g.S.Source.tells c.args.source.now)
    c.args.scanner.now.feed
    (g.O.Sink.tells c.args.out.now) (g.E.Sink.tells c.args.err.now) c.from_residual.result same stood

pub returns-in_err-ended-clause-scans : goal.returns-in_err-ended-clause-scans
returns-in_err-ended-clause-scans g c before job stood =
    let job_is = c.args.job.now in
    let other = skipped-not c.args.treatment (sym c.is_skipped.ensures ∙ c.if-is_skipped.false) in
    let stop = c.in_err-ended.field-0.0 in
    let same : c.from_residual-in_err-ended.result ≡ Err stop = search rules in
    scans-whole (work_of job_is) c.args.scanner.now.state c.args.treatment c.scan-ended.new.course.selected
    c.counted-scanner.result c.scan-ended.new.scanner.state c.counted-scanner.ensures (Err stop) c.in_err-ended.was
    c.from_residual-in_err-ended.result same other
    (c.scan-ended.ensures.scans before c.args.treatment (job other) stood)

pub returns-clause-scans : goal.returns-clause-scans
returns-clause-scans g c before job stood =
    let job_is = c.args.job.now in
    let other = skipped-not c.args.treatment (sym c.is_skipped.ensures ∙ c.if-is_skipped.false) in
    scans-whole (work_of job_is) c.args.scanner.now.state c.args.treatment c.scan-ended.new.course.selected
    c.counted-scanner.result c.scan-ended.new.scanner.state c.counted-scanner.ensures (Ok c.in_ok-ended.ended)
    c.in_ok-ended.was _ refl other (c.scan-ended.ensures.scans before c.args.treatment (job other) stood)
