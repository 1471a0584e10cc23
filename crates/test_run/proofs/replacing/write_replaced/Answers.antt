use Rattle.std.proofs.Common.{◌∙◌, ap}
use Rattle.pat_tree.specs.declared.options.Options.{Options}
use Rattle.test_lines.specs.Lines.{done_line}
use Rattle.test_run.proofs.Rewriting.{text-done}
use Rattle.test_lines.proofs.Writing.{writes-equal}
use Rattle.test_run.proofs.replacing.write_replaced.Goals as goal

pub returns-in-Ok : goal.returns-in-Ok
returns-in-Ok g c =
    let done = c.in-Ok.done in
    writes-equal (ap (λ (o : Options). done_line o.utf done) c.options.ensures
    ∙ text-done c.args.code.now.tree.options.utf _ done c.in-Ok.ensures.substituted) c.write_done.ensures

pub returns-in-Err : goal.returns-in-Err
returns-in-Err g c = c.write_refused.ensures _ _ c.in-Err.ensures.refused
