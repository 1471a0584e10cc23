use Rattle.std.proofs.lemmas.Option.{IfSome_then}
use Rattle.match_drive.proofs.PastRun.{runs_known}
use Rattle.match_drive.proofs.outline.Outline.run_for.Goals as goal

pub returns-then-goes_by_run : goal.returns-then-goes_by_run
returns-then-goes_by_run c tree known same =
    let view = c.args.view.now in
    let goes = c.goes_by_run.ensures c.if-goes_by_run.true in
    rw c.as_ref.ensures.value (IfSome_then c.args.self.now.run known
    (λ item begins. runs_known tree view item begins goes same))
