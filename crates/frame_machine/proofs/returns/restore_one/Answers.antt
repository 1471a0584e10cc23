use Rattle.std.proofs.Common.{sym}
use Rattle.frame_machine.proofs.Restores.{kept_set}
use Rattle.frame_machine.proofs.returns.restore_one.Goals as goal

pub returns-then-same_span-clause-set : goal.returns-then-same_span-clause-set
returns-then-same_span-clause-set c =
    kept_set c.args.registers.now c.args.group c.args.value
    (rw (c.captured-now.ensures, c.from.ensures) at (sym c.if-same_span.ensures))
