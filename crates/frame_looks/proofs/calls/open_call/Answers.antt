use Rattle.std.proofs.Common.{refl}
use Rattle.frame_looks.proofs.calls.open_call.Goals as goal

pub returns-clause-spot : goal.returns-clause-spot
returns-clause-spot c = rw (c.len.ensures, c.in_default.ensures.spot, c.in_default.ensures.pushed) refl

pub returns-clause-pushed : goal.returns-clause-pushed
returns-clause-pushed c = rw (c.in_default.ensures.pushed, c.call_record-event.ensures) refl
