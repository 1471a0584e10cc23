use Rattle.std.proofs.Common.{refl}
use Rattle.frame_store.specs.Entry.{entry_in}
use Rattle.frame_looks.proofs.calls.call_record.Goals as goal

pub returns : goal.returns
unfolding entry_in
returns c = rw c.record-event.ensures refl
