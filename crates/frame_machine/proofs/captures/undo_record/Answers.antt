use Rattle.std.proofs.Common.{refl}
use Rattle.frame_store.specs.Entry.{entry_in}
use Rattle.frame_machine.proofs.captures.undo_record.Goals as goal

pub returns-in-None : goal.returns-in-None
unfolding entry_in
returns-in-None c = rw (c.in-None.is, c.record-undo.ensures) refl

pub returns-in-Some : goal.returns-in-Some
unfolding entry_in
returns-in-Some c = rw (c.in-Some.is, c.record-undo.ensures) refl
