use Rattle.std.proofs.Common.{◌≡◌, Err, sym, subst, rules}
use Rattle.tool_io.specs.Printed.{printed}
use Rattle.test_main.specs.RunsBy.{RunsBy}
use Rattle.test_main.specs.ToolText.{generated_outcome}
use Rattle.test_main.proofs.Running.{generated-whole, generated-part}
use Rattle.test_main.proofs.run.run_generated.Goals as goal

pub returns-in_err-write_generated : goal.returns-in_err-write_generated
returns-in_err-write_generated g c =
    let out = g.O.Sink.tells c.args.out.now in
    let out_new = g.O.Sink.tells c.write_generated.new.out in
    let e = c.in_err-write_generated.field-0.0 in
    let same : c.from_residual.result ≡ Err e = search rules in
    λ err. subst (RunsBy (generated_outcome c.args.lines) (printed out err) (printed out_new err)) (sym same)
    (generated-part c.args.lines out out_new err e c.in_err-write_generated.ensures)

pub returns : goal.returns
returns g c =
    λ err. generated-whole c.args.lines (g.O.Sink.tells c.args.out.now) (g.O.Sink.tells c.write_generated.new.out) err
    _ c.in_ok-write_generated.ensures
