use Rattle.std.proofs.Common.{refl}
use Rattle.frame_store.specs.Entry.{entry_in}
use Rattle.frame_parts.proofs.repeats.turn_record.Goals as goal

pub returns-then-exits : goal.returns-then-exits
unfolding entry_in
returns-then-exits c = rw (c.if-exits.true, c.«record».ensures) refl

pub returns-else-exits : goal.returns-else-exits
unfolding entry_in
returns-else-exits c = rw (c.if-exits.false, c.record-else-exits.ensures) refl
