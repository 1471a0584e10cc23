use Rattle.std.proofs.Common.{◌≡◌, Err, sym, subst, rules}
use Rattle.tool_io.specs.Writes.{Writes}
use Rattle.test_lines.specs.Lines.{failed_line}
use Rattle.test_lines.proofs.Writing.{writes-as, refused-as}
use Rattle.test_run.proofs.matches.fail.Goals as goal

pub returns-in_err-write_failed-clause-wrote : goal.returns-in_err-write_failed-clause-wrote
returns-in_err-write_failed-clause-wrote g c =
    let e = c.in_err-write_failed.field-0.0 in
    let same : c.from_residual.result ≡ Err e = search rules in
    subst (λ r. Writes (failed_line c.args.e) (g.O.Sink.tells c.args.out.now) (g.O.Sink.tells c.write_failed.new.out)
    r) (sym same) (refused-as {A = Unit {0}} e c.in_err-write_failed.ensures)

pub returns-clause-wrote : goal.returns-clause-wrote
returns-clause-wrote g c = writes-as {A = Unit {0}} _ _ c.in_ok-write_failed.ensures
