use Rattle.std.proofs.Common.{sym, subst}
use Rattle.tool_io.specs.Outcomes.{said, Runs}
use Rattle.tool_io.specs.Printed.{printed}
use Rattle.tool_io.proofs.Saying.{said-all, said-part}
use Rattle.tool_io.proofs.status.say.Goals as goal

pub returns-in-Ok : goal.returns-in-Ok
returns-in-Ok g c = λ out. said-all c.args.text.now c.args.status out _ _ c.in-Ok.field-0 c.requires c.in-Ok.ensures

pub returns-in-Err : goal.returns-in-Err
returns-in-Err g c = λ out.
    subst (λ status. Runs (said c.args.text.now c.args.status) status (printed out (g.E.Sink.tells c.args.err.now))
    (printed out (g.E.Sink.tells c.write_texts.new.out))) (sym c.status_of.ensures)
    (said-part c.args.text.now c.args.status out _ _ c.in-Err.e c.in-Err.ensures)
